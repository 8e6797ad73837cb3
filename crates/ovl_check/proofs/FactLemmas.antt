-- The condition of each code at an entry, by its facts.
use Rattle.std.proofs.Common.{◌≡◌, ℕ, ◌+◌, ◌<◌, Bool, true, false, cond, Option, Some, None, List, [], ◌∷◌, ◌++◌, get_or, take, map, refl, sym, ap, ◌∙◌, append_assoc}
use Rattle.std.specs.Prelude.{◌&&◌, ◌||◌, ◌==◌, not, is_none, length, codes, filter}
use Rattle.std.specs.Option.{option_map}
use Rattle.std.proofs.Math.Bool.{and-false}
use Rattle.std.proofs.lemmas.List.{map-append}
use Rattle.std.proofs.lemmas.List.Elements.{filter_more}
use Rattle.ovl_names.specs.Names.{PathName}
use Rattle.ovl_names.specs.Paths.{PathNames, child_path, parent_path}
use Rattle.ovl_inode.specs.declared.inodes.Inode.{Inode}
use Rattle.ovl_inode.specs.declared.marks.Mark.{Mark}
use Rattle.ovl_inode.specs.declared.marks.Mark.TheVariants.{Whiteout as WhiteoutMark, DirMoved, Meta}
use Rattle.ovl_inode.specs.Kinds.{size_of, blob_of}
use Rattle.ovl_inode.specs.Marks.{is_directory, is_regular, is_whiteout, attribute_is}
use Rattle.ovl_inode.specs.Attributes.{impure_name}
use Rattle.ovl_layer.specs.Layers.{Entries, entry_at}
use Rattle.ovl_lookup.specs.declared.looks.Look.{Look}
use Rattle.ovl_lookup.specs.declared.looks.Look.TheVariants.{Nothing as NothingLook, Shown, Broken}
use Rattle.ovl_lookup.specs.Walk.{mark_at, walk, natural_path}
use Rattle.ovl_lookup.specs.Stacks.{StackView}
use Rattle.ovl_lookup.specs.Merged.{look, is_nothing, is_shown_directory}
use Rattle.ovl_lookup.specs.Sound.{is_moved, is_malformed, is_meta, is_seen_there, data_at, has_other_size, redirect_is_lost, redirect_is_of_wrong_kind, redirect_is_open, data_is_missing, data_is_of_other_size}
use Rattle.ovl_check.specs.declared.findings.Code.{Code}
use Rattle.ovl_check.specs.declared.findings.Code.TheVariants.{RedirectForm, RedirectLost, RedirectKind, RedirectDouble, RedirectOpen, DataMissing, DataSize, BlobMissing, BlobSize, BlobDigest, OrphanWhiteout, WhiteoutInOpaque as InOpaqueCode, WhiteoutUnmarked, ImpureMissing, MarkIgnored}
use Rattle.ovl_check.specs.declared.findings.Finding.{Finding}
use Rattle.ovl_check.specs.declared.facts.ThingShown.TheVariants.{Directory as DirectoryShown, Other as OtherShown}
use Rattle.ovl_check.specs.declared.facts.KindFacts.{KindFacts}
use Rattle.ovl_check.specs.declared.facts.KindFacts.TheVariants.{WhiteoutInOpaque, Whiteout, Moved, Metacopy}
use Rattle.ovl_check.specs.declared.facts.OldPlace.TheVariants.{Hidden, Open}
use Rattle.ovl_check.specs.declared.facts.NamedBlob.{NamedBlob}
use Rattle.ovl_check.specs.declared.facts.NamedBlob.TheVariants.{Unnamed}
use Rattle.ovl_check.specs.declared.facts.Facts.{Facts}
use Rattle.ovl_check.specs.Codes.{all_codes, is_double}
use Rattle.ovl_check.specs.Findings.{finding}
use Rattle.ovl_blobs.specs.declared.contents.BlobInfo.{BlobInfo}
use Rattle.ovl_check.specs.Contents.{holds_of_contents as holds, has_content, content_is_missing, content_is_of_other_size, content_is_wrong}
use Rattle.ovl_blobs.specs.Contents.{find_content}
use Rattle.ovl_check.specs.Checks.{CheckView, sought_in, layer_at, layers_below, holds_alone, findings_alone, findings_at_path}
use Rattle.ovl_check.specs.Conditions.{is_in_opaque as is_in_opaque_at, is_in_marked, whiteout_is_orphan, whiteout_is_in_opaque, whiteout_is_unmarked, opaque_is_ignored, redirect_is_ignored, metacopy_is_ignored, whiteout_is_ignored}
use Rattle.ovl_check.specs.Facts.{AreFacts, tells, found_at_child, thing_shown, kind_at, blob_found, blob_named, is_whiteout_mark, is_lost, is_of_wrong_kind, is_open, lacks_data, has_data_of_other_size, is_missing, is_of_other_length, is_wrong, is_orphan, is_in_opaque, is_outside_marked, is_unmarked, mark_says_nothing}

-- a test that fails for both kinds of whiteouts
never-whiteout : (test : KindFacts → Bool) (opaque marked hides : Bool) → test WhiteoutInOpaque ≡ false → test (Whiteout marked hides) ≡ false → test (cond opaque WhiteoutInOpaque (Whiteout marked hides)) ≡ false
never-whiteout test true marked hides one other = one
never-whiteout test false marked hides one other = other

-- ---- by kind

module _ (layer : Entries) (below : StackView) (path : PathNames) (inode : Inode) (mark : Mark) (marked : mark_at layer path ≡ Some mark) where
  abbrev next : PathNames
  next = (walk layer path).next

  abbrev closed : Bool
  closed = (walk layer path).closed

  abbrev shown : Look
  shown = look below next

  abbrev kind : Mark → KindFacts
  kind m = kind_at layer below path inode m

  abbrev opaque : Bool
  opaque = is_in_opaque_at layer path

  abbrev hides_nothing : Bool
  hides_nothing = (walk layer (parent_path path)).closed || is_nothing (look below (natural_path layer path))

  lost : is_lost (kind mark) ≡ redirect_is_lost layer below path
  lost = by mark ∙ sym (ap (λ m. is_moved m && (closed || is_nothing shown)) marked)
    where
      content : (found : Look) (seen : Bool) → is_lost (Moved (Open (thing_shown found) seen)) ≡ is_nothing found
      content NothingLook seen = refl
      content (Shown i) seen = here (is_directory i)
        where
          here : (b : Bool) → is_lost (Moved (Open (cond b DirectoryShown OtherShown) seen)) ≡ false
          here true = refl
          here false = refl
      content (Broken i) seen = refl

      hidden : (c : Bool) → is_lost (Moved (cond c Hidden (Open (thing_shown shown) (is_seen_there layer next)))) ≡ (c || is_nothing shown)
      hidden true = refl
      hidden false = content shown (is_seen_there layer next)

      by : (m : Mark) → is_lost (kind m) ≡ (is_moved (Some m) && (closed || is_nothing shown))
      by (DirMoved redirect) = hidden closed
      by WhiteoutMark = never-whiteout is_lost opaque (is_in_marked layer path) (not hides_nothing) refl refl
      by _ = refl

  wrong_kind : is_of_wrong_kind (kind mark) ≡ redirect_is_of_wrong_kind layer below path
  wrong_kind = by mark ∙ sym (ap (λ m. is_moved m && not closed && not (is_nothing shown) && not (is_shown_directory shown)) marked)
    where
      content : (found : Look) (seen : Bool) → is_of_wrong_kind (Moved (Open (thing_shown found) seen)) ≡ (not (is_nothing found) && not (is_shown_directory found))
      content NothingLook seen = refl
      content (Shown i) seen = here (is_directory i)
        where
          here : (b : Bool) → is_of_wrong_kind (Moved (Open (cond b DirectoryShown OtherShown) seen)) ≡ not b
          here true = refl
          here false = refl
      content (Broken i) seen = refl

      hidden : (c : Bool) → is_of_wrong_kind (Moved (cond c Hidden (Open (thing_shown shown) (is_seen_there layer next)))) ≡ (not c && not (is_nothing shown) && not (is_shown_directory shown))
      hidden true = refl
      hidden false = content shown (is_seen_there layer next)

      by : (m : Mark) → is_of_wrong_kind (kind m) ≡ (is_moved (Some m) && not closed && not (is_nothing shown) && not (is_shown_directory shown))
      by (DirMoved redirect) = hidden closed
      by WhiteoutMark = never-whiteout is_of_wrong_kind opaque (is_in_marked layer path) (not hides_nothing) refl refl
      by _ = refl

  opened : is_open (kind mark) ≡ redirect_is_open layer path
  opened = by mark ∙ sym (ap (λ m. is_moved m && not closed && is_seen_there layer next) marked)
    where
      hidden : (c : Bool) → is_open (Moved (cond c Hidden (Open (thing_shown shown) (is_seen_there layer next)))) ≡ (not c && is_seen_there layer next)
      hidden true = refl
      hidden false = refl

      by : (m : Mark) → is_open (kind m) ≡ (is_moved (Some m) && not closed && is_seen_there layer next)
      by (DirMoved redirect) = hidden closed
      by WhiteoutMark = never-whiteout is_open opaque (is_in_marked layer path) (not hides_nothing) refl refl
      by _ = refl

  missing : lacks_data (kind mark) ≡ data_is_missing layer below path inode
  missing = by mark ∙ sym (ap (λ m. is_meta m && is_none (data_at layer below path inode)) marked)
    where
      data_none : (o : Option Inode) → lacks_data (Metacopy (option_map size_of o)) ≡ is_none o
      data_none None = refl
      data_none (Some contents) = refl

      by : (m : Mark) → lacks_data (kind m) ≡ (is_meta (Some m) && is_none (data_at layer below path inode))
      by (Meta redirect) = data_none (data_at layer below path inode)
      by WhiteoutMark = never-whiteout lacks_data opaque (is_in_marked layer path) (not hides_nothing) refl refl
      by _ = refl

  other_size : has_data_of_other_size (kind mark) (size_of inode) ≡ data_is_of_other_size layer below path inode
  other_size = by mark ∙ sym (ap (λ m. is_meta m && has_other_size inode (data_at layer below path inode)) marked)
    where
      size : (o : Option Inode) → has_data_of_other_size (Metacopy (option_map size_of o)) (size_of inode) ≡ has_other_size inode o
      size None = refl
      size (Some contents) = refl

      by : (m : Mark) → has_data_of_other_size (kind m) (size_of inode) ≡ (is_meta (Some m) && has_other_size inode (data_at layer below path inode))
      by (Meta redirect) = size (data_at layer below path inode)
      by WhiteoutMark = never-whiteout (λ k. has_data_of_other_size k (size_of inode)) opaque (is_in_marked layer path) (not hides_nothing) refl refl
      by _ = refl

  module _ (whiteout : is_whiteout inode ≡ is_whiteout_mark mark) where
    orphan : is_orphan (kind mark) ≡ whiteout_is_orphan layer below path inode
    orphan = by mark ∙ sym (ap (λ w. w && not opaque && hides_nothing) whiteout)
      where
        twice : (b : Bool) → not (not b) ≡ b
        twice true = refl
        twice false = refl

        inside : (o : Bool) → is_orphan (cond o WhiteoutInOpaque (Whiteout (is_in_marked layer path) (not hides_nothing))) ≡ (not o && hides_nothing)
        inside true = refl
        inside false = twice hides_nothing

        by : (m : Mark) → is_orphan (kind m) ≡ (is_whiteout_mark m && not opaque && hides_nothing)
        by WhiteoutMark = inside opaque
        by _ = refl

    in_opaque : is_in_opaque (kind mark) ≡ whiteout_is_in_opaque layer path inode
    in_opaque = by mark ∙ sym (ap (λ w. w && opaque) whiteout)
      where
        inside : (o : Bool) → is_in_opaque (cond o WhiteoutInOpaque (Whiteout (is_in_marked layer path) (not hides_nothing))) ≡ o
        inside true = refl
        inside false = refl

        by : (m : Mark) → is_in_opaque (kind m) ≡ (is_whiteout_mark m && opaque)
        by WhiteoutMark = inside opaque
        by _ = refl

    unmarked : is_unmarked (kind mark) inode ≡ whiteout_is_unmarked layer path inode
    unmarked = by mark ∙ sym (ap (λ w. w && is_regular inode && not opaque && not (is_in_marked layer path)) whiteout)
      where
        inside : (r o : Bool) → (r && is_outside_marked (cond o WhiteoutInOpaque (Whiteout (is_in_marked layer path) (not hides_nothing)))) ≡ (r && not o && not (is_in_marked layer path))
        inside true true = refl
        inside true false = refl
        inside false o = refl

        by : (m : Mark) → is_unmarked (kind m) inode ≡ (is_whiteout_mark m && is_regular inode && not opaque && not (is_in_marked layer path))
        by WhiteoutMark = inside (is_regular inode) opaque
        by _ = and-false (is_regular inode)

-- ---- the blob

module _ (contents : List BlobInfo) (inode : Inode) where
  abbrev named : Option (List ℕ) → NamedBlob
  named o = elim o as (λ _. NamedBlob) [ Some name ↦ blob_found (find_content contents name) | None ↦ Unnamed ]

  missing_blob : is_missing (blob_named contents inode) ≡ content_is_missing contents inode
  missing_blob = by (blob_of inode)
    where
      found : (o : Option BlobInfo) → is_missing (blob_found o) ≡ is_none o
      found None = refl
      found (Some blob) = refl

      by : (o : Option (List ℕ)) → is_missing (named o) ≡ elim o as (λ _. Bool) [ Some name ↦ is_none (find_content contents name) | None ↦ false ]
      by None = refl
      by (Some name) = found (find_content contents name)

  blob_size : is_of_other_length (blob_named contents inode) (size_of inode) ≡ content_is_of_other_size contents inode
  blob_size = by (blob_of inode)
    where
      found : (o : Option BlobInfo) → is_of_other_length (blob_found o) (size_of inode) ≡ has_content (λ content. not (content.size == size_of inode)) o
      found None = refl
      found (Some blob) = refl

      by : (o : Option (List ℕ)) → is_of_other_length (named o) (size_of inode) ≡ elim o as (λ _. Bool) [ Some name ↦ has_content (λ content. not (content.size == size_of inode)) (find_content contents name) | None ↦ false ]
      by None = refl
      by (Some name) = found (find_content contents name)

  wrong_blob : is_wrong (blob_named contents inode) ≡ content_is_wrong contents inode
  wrong_blob = by (blob_of inode)
    where
      found : (o : Option BlobInfo) → is_wrong (blob_found o) ≡ has_content (λ content. not content.is_right) o
      found None = refl
      found (Some blob) = refl

      by : (o : Option (List ℕ)) → is_wrong (named o) ≡ elim o as (λ _. Bool) [ Some name ↦ has_content (λ content. not content.is_right) (find_content contents name) | None ↦ false ]
      by None = refl
      by (Some name) = found (find_content contents name)

-- ---- all codes

module _ (work : CheckView) (i : ℕ) (path : PathNames) (facts : Facts) (are : AreFacts work i path facts) where
  abbrev layer : Entries
  layer = layer_at work.stack i

  abbrev lower : StackView
  lower = layers_below work.stack i

  abbrev inode : Inode
  inode = facts.inode.now

  abbrev mark : Mark
  mark = facts.mark.now

  told : (code : Code) → tells facts code ≡ (not (is_double code) && holds work.contents layer lower (path, inode) code)
  told RedirectForm = ap is_malformed (sym are.mark)
  told RedirectLost = ap is_lost are.kind ∙ lost layer lower path inode mark are.mark
  told RedirectKind = ap is_of_wrong_kind are.kind ∙ wrong_kind layer lower path inode mark are.mark
  told RedirectDouble = refl
  told RedirectOpen = ap is_open are.kind ∙ opened layer lower path inode mark are.mark
  told DataMissing = ap lacks_data are.kind ∙ missing layer lower path inode mark are.mark
  told DataSize = ap (λ k. has_data_of_other_size k (size_of inode)) are.kind ∙ other_size layer lower path inode mark are.mark
  told BlobMissing = ap is_missing are.blob ∙ missing_blob work.contents inode
  told BlobSize = ap (λ b. is_of_other_length b (size_of inode)) are.blob ∙ blob_size work.contents inode
  told BlobDigest = ap is_wrong are.blob ∙ wrong_blob work.contents inode
  told OrphanWhiteout = ap is_orphan are.kind ∙ orphan layer lower path inode mark are.mark are.whiteout
  told InOpaqueCode = ap is_in_opaque are.kind ∙ in_opaque layer lower path inode mark are.mark are.whiteout
  told WhiteoutUnmarked = ap (λ k. is_unmarked k inode) are.kind ∙ unmarked layer lower path inode mark are.mark are.whiteout
  told ImpureMissing = ap (λ b. is_directory inode && not (attribute_is inode impure_name (codes "y")) && b) are.origin
  told MarkIgnored =
      ap (λ r. mark_says_nothing r inode mark) are.root
      ∙ ap (λ m. opaque_is_ignored path inode || redirect_is_ignored path inode m || metacopy_is_ignored inode m || whiteout_is_ignored inode) (sym are.mark)

  -- the codes that the facts give are those whose conditions hold
  pub codes-told : filter (λ code. sought_in work.stack i code && tells facts code) all_codes ≡ filter (holds_alone work i (path, inode)) all_codes
  codes-told = λ j. filter (λ code. (ap (λ b. sought_in work.stack i code && b) (told code) ∙ turned (sought_in work.stack i code) (not (is_double code)) (holds work.contents layer lower (path, inode) code)) j) all_codes
    where
      turned : (a b c : Bool) → (a && (b && c)) ≡ (b && (a && c))
      turned true b c = refl
      turned false true c = refl
      turned false false c = refl

-- what is found at a directory, and at what it holds, by the facts of each
module _ (work : CheckView) (i n : ℕ) (same : n ≡ i) (path : PathNames) (inode : Inode) (facts : Facts) (own : facts.inode.now ≡ inode) (are : AreFacts work n path facts) where
  alone : map (finding i path) (filter (λ code. sought_in work.stack i code && tells facts code) all_codes) ≡ findings_alone work i (path, inode)
  alone =
      (λ j. map (finding i path) (filter (λ code. sought_in work.stack (sym same j) code && tells facts code) all_codes))
      ∙ (ap (map (finding i path)) (codes-told work n path facts are)
      ∙ (λ j. map (finding i path) (filter (holds_alone work (same j) (path, own j)) all_codes)))

  pub found-at : entry_at (layer_at work.stack i) path ≡ Some inode → map (finding i path) (filter (λ code. sought_in work.stack i code && tells facts code) all_codes) ≡ findings_at_path work i path
  found-at here = alone ∙ sym (ap (λ (o : Option Inode). elim o as (λ _. List Finding) [ Some found ↦ findings_alone work i (path, found) | None ↦ [] ]) here)

  pub found-child : (directory : PathNames) (name : PathName) → path ≡ child_path directory name → is_directory inode ≡ false → map (finding i path) (filter (λ code. sought_in work.stack i code && tells facts code) all_codes) ≡ found_at_child work i directory (name, inode)
  found-child directory name is none =
      alone
      ∙ (ap (λ (p : PathNames). findings_alone work i (p, inode)) is
      ∙ sym (ap (λ b. cond b [] (findings_alone work i (child_path directory name, inode))) none))

-- the loop over the codes
pub codes-more : {X Y : Type 0} (f : X → Y) (test : X → Bool) (xs : List X) (i : ℕ) (d : X) (start old new : List Y) (answer : Bool) → i < length xs → old ≡ start ++ map f (filter test (take i xs)) → answer ≡ test (get_or xs i d) → new ≡ old ++ cond answer (f (get_or xs i d) ∷ []) [] → new ≡ start ++ map f (filter test (take (i + 1) xs))
codes-more {X} {Y} f test xs i d start old new answer inside so_far told added =
    let x : X = get_or xs i d in
    added
    ∙ ((λ j. so_far j ++ cond (told j) (f x ∷ []) [])
    ∙ (append_assoc start (map f (filter test (take i xs))) (cond (test x) (f x ∷ []) [])
    ∙ ap (λ ys. start ++ ys) (sym (ap (map f) (filter_more test xs i d inside) ∙ (map-append f (filter test (take i xs)) (cond (test x) (x ∷ []) []) ∙ ap (λ ys. map f (filter test (take i xs)) ++ ys) (one (test x) x))))))
  where
    one : (b : Bool) (x : X) → map f (cond b (x ∷ []) []) ≡ cond b (f x ∷ []) []
    one true x = refl
    one false x = refl
