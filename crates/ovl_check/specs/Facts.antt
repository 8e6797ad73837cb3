-- What the conditions ask of one entry of a layer, over the blobs and the stack of the layers below
-- it, and the condition of each code by that.
use Rattle.std.specs.Prelude.{◌≡◌, ℕ, MatchOption, Bool, true, false, ◌&&◌, ◌||◌, ◌==◌, not, Option, Some, None, List, [], ◌∷◌, if◌then◌else◌, length, map, unwrap_or, All, codes}
use Rattle.std.specs.List.{list_any, flat_map}
use Rattle.std.specs.Option.{option_map}
use Rattle.ovl_names.specs.Names.{PathName}
use Rattle.ovl_names.specs.Paths.{PathNames, child_path, parent_path, is_root}
use Rattle.ovl_inode.specs.declared.inodes.Inode.{Inode}
use Rattle.ovl_inode.specs.declared.marks.Mark.{Mark}
use Rattle.ovl_inode.specs.declared.marks.Mark.TheVariants.{Whiteout as WhiteoutMark, Leaf, DirPlain, DirMoved, Meta}
use Rattle.ovl_inode.specs.Attributes.{opaque_name, redirect_name, impure_name}
use Rattle.ovl_inode.specs.Kinds.{size_of, blob_of}
use Rattle.ovl_inode.specs.Marks.{mark_of, has_attribute, attribute_is, is_directory, is_regular, is_whiteout}
use Rattle.ovl_layer.specs.Layers.{Entries, IsLayer, entry_at, names_below}
use Rattle.ovl_lookup.specs.declared.looks.Look.{Look}
use Rattle.ovl_lookup.specs.declared.steps.Step.{Step}
use Rattle.ovl_lookup.specs.Walk.{mark_at, walk, natural_path}
use Rattle.ovl_lookup.specs.Stacks.{StackView}
use Rattle.ovl_lookup.specs.Trace.{things_found}
use Rattle.ovl_lookup.specs.Merged.{look, is_nothing, is_shown_directory, shows_directory, data_at_place}
use Rattle.ovl_lookup.specs.declared.views.DirView.{DirView}
use Rattle.ovl_lookup.specs.DirViews.{IsViewOf}
use Rattle.ovl_lookup.specs.Passes.{data_below}
use Rattle.ovl_lookup.specs.Sound.{is_malformed, is_seen_there, data_at}
use Rattle.ovl_check.specs.declared.findings.Code.{Code}
use Rattle.ovl_check.specs.declared.findings.Code.TheVariants.{RedirectForm, RedirectLost, RedirectKind, RedirectDouble, RedirectOpen, DataMissing, DataSize, BlobMissing, BlobSize, BlobDigest, OrphanWhiteout, WhiteoutInOpaque as InOpaqueCode, WhiteoutUnmarked, ImpureMissing, MarkIgnored}
use Rattle.ovl_check.specs.declared.findings.Finding.{Finding}
use Rattle.ovl_check.specs.declared.facts.ThingShown.{ThingShown}
use Rattle.ovl_check.specs.declared.facts.ThingShown.TheVariants.{Nothing, Directory as DirectoryShown, Other as OtherShown}
use Rattle.ovl_check.specs.declared.facts.OldPlace.{OldPlace}
use Rattle.ovl_check.specs.declared.facts.OldPlace.TheVariants.{Hidden, Open}
use Rattle.ovl_check.specs.declared.facts.KindFacts.{KindFacts}
use Rattle.ovl_check.specs.declared.facts.KindFacts.TheVariants.{WhiteoutInOpaque, Whiteout, Moved, Metacopy, Other}
use Rattle.ovl_check.specs.declared.facts.NamedBlob.{NamedBlob}
use Rattle.ovl_check.specs.declared.facts.NamedBlob.TheVariants.{Unnamed, Missing, Found}
use Rattle.ovl_check.specs.declared.facts.Facts.{Facts}
use Rattle.ovl_check.specs.declared.checks.EntryPlace.{EntryPlace}
use Rattle.ovl_check.specs.declared.checks.EntryPlace.TheVariants.{At, In}
use Rattle.ovl_check.specs.declared.directories.Child.{Child}
use Rattle.ovl_check.specs.declared.directories.CheckedDirectory.{CheckedDirectory}
use Rattle.ovl_blobs.specs.declared.contents.BlobInfo.{BlobInfo}
use Rattle.ovl_blobs.specs.Contents.{find_content}
use Rattle.ovl_check.specs.Checks.{CheckView, layer_at, first_below, layers_below, findings_alone}
use Rattle.ovl_check.specs.Conditions.{has_origin_at, is_opaque, is_any_meta, is_in_opaque as is_in_opaque_at, is_in_marked, metacopy_is_ignored, whiteout_is_ignored}

-- ---- a directory of a layer, gathered once for all that is in it

-- an inode under its name, where there is one
abbrev pub held : PathName → Option Inode → List (PathName × Inode)
held name None = []
held name (Some inode) = (name, inode) ∷ []

-- what a directory directly holds
abbrev pub held_in : Entries → PathNames → List (PathName × Inode)
held_in layer directory =
    flat_map (λ name. held name (entry_at layer (child_path directory name)))
    (names_below layer directory)

abbrev pub child_seen : Child → PathName × Inode
child_seen child = (child.name.now, child.inode.now)

-- its mark is that of its inode
abbrev pub IsChildMarked : Child → Type 0
IsChildMarked child = child.mark.now ≡ mark_of child.inode.now

-- the path by which the layers below know a directory
abbrev pub next_of : CheckedDirectory → PathNames
next_of directory = unwrap_or directory.turned directory.path.now

-- what was gathered of a directory is what the layer has there
pub record IsGathered (layer : Entries) (directory : CheckedDirectory) : Type 0 where
  pub layered : IsLayer layer
  pub inode : entry_at layer directory.path.now ≡ Some directory.inode.now
  pub kind : is_directory directory.inode.now ≡ true
  pub mark : mark_at layer directory.path.now ≡ Some directory.mark.now
  pub marked : directory.is_marked ≡ attribute_is directory.inode.now opaque_name (codes "x")
  pub next : next_of directory ≡ (walk layer directory.path.now).next
  pub closed : directory.closed ≡ (walk layer directory.path.now).closed
  pub children : map child_seen directory.children.items ≡ held_in layer directory.path.now
  pub marks : All IsChildMarked directory.children.items

-- an entry of this mark asks what the layers below have at its name
abbrev pub asks : Mark → Bool
asks WhiteoutMark = true
asks (Meta redirect) = true
asks _ = false

-- the view of the layers below layer `i` at a path, and none where they show no directory there
abbrev pub IsViewBelow : StackView → ℕ → PathNames → Option DirView → Type 0
IsViewBelow stack i next below =
    MatchOption below (shows_directory (layers_below stack i) next ≡ false)
    (λ view. IsViewOf stack (first_below stack i) next view)

-- a directory has that view where its walk goes on, if that is open and something in it asks
abbrev pub IsBelowOf : StackView → ℕ → CheckedDirectory → Type 0
IsBelowOf stack i directory =
    directory.closed ≡ false
    → list_any (λ child. asks child.mark.now) directory.children.items ≡ true
    → IsViewBelow stack i (next_of directory) directory.below

-- ---- the facts of an entry of a layer, by its mark

-- what is shown, in a word
abbrev pub thing_shown : Look → ThingShown
thing_shown found =
    if is_nothing found then Nothing else if is_shown_directory found then DirectoryShown
    else OtherShown

-- the old place of a moved directory, by where its walk goes on
abbrev pub old_place : Entries → StackView → PathNames → Bool → OldPlace
old_place layer below next closed =
    if closed then Hidden else Open (thing_shown (look below next)) (is_seen_there layer next)

-- the size of the data that a stack has at a path, below a metacopy file that says where data-only
-- layers have it
abbrev pub data_size : StackView → Option PathNames → PathNames → Option ℕ
data_size below place path =
    option_map size_of (data_below below.data_only place (things_found below.layers path))

-- the same where a walk goes on
abbrev pub data_size_on : StackView → Option PathNames → Step → Option ℕ
data_size_on below place step =
    if step.closed then option_map size_of (data_at_place below.data_only place)
    else data_size below place step.next

-- a whiteout in this directory
abbrev pub whiteout_in : StackView → CheckedDirectory → PathName → KindFacts
whiteout_in below directory name =
    if is_opaque (Some directory.mark.now) then WhiteoutInOpaque
    else Whiteout directory.is_marked
    (not (directory.closed || is_nothing (look below (child_path (next_of directory) name))))

abbrev pub whiteout_at : Entries → StackView → PathNames → KindFacts
whiteout_at layer below path =
    if is_in_opaque_at layer path then WhiteoutInOpaque
    else Whiteout (is_in_marked layer path)
    (not ((walk layer (parent_path path)).closed
    || is_nothing (look below (natural_path layer path))))

abbrev pub kind_at : Entries → StackView → PathNames → Inode → Mark → KindFacts
kind_at layer below path inode WhiteoutMark = whiteout_at layer below path
kind_at layer below path inode (DirMoved redirect) =
    Moved (old_place layer below (walk layer path).next (walk layer path).closed)
kind_at layer below path inode (Meta redirect) =
    Metacopy (option_map size_of (data_at layer below path inode))
kind_at layer below path inode _ = Other

-- the blob that an inode names
abbrev pub blob_found : Option BlobInfo → NamedBlob
blob_found None = Missing
blob_found (Some content) = Found content.size (not content.is_right)

abbrev pub blob_named : List BlobInfo → Inode → NamedBlob
blob_named contents inode =
    elim (blob_of inode) [ Some name ↦ blob_found (find_content contents name) | None ↦ Unnamed ]

abbrev pub is_whiteout_mark : Mark → Bool
is_whiteout_mark WhiteoutMark = true
is_whiteout_mark _ = false

-- these are the facts of the entry at a path of layer `i`
pub record AreFacts (work : CheckView) (i : ℕ) (path : PathNames) (facts : Facts) : Type 0 where
  pub inode : entry_at (layer_at work.stack i) path ≡ Some facts.inode.now
  pub mark : mark_at (layer_at work.stack i) path ≡ Some facts.mark.now
  pub whiteout : is_whiteout facts.inode.now ≡ is_whiteout_mark facts.mark.now
  pub root : facts.is_root ≡ is_root path
  pub kind : facts.kind
      ≡ kind_at (layer_at work.stack i)
      (layers_below work.stack i) path facts.inode.now facts.mark.now
  pub blob : facts.blob ≡ blob_named work.contents facts.inode.now
  pub origin : facts.holds_origin
      ≡ list_any (λ name. has_origin_at (layer_at work.stack i) (child_path path name))
      (names_below (layer_at work.stack i) path)

-- the path of an entry by its place
abbrev pub entry_path : EntryPlace → PathNames
entry_path (At path) = path.now
entry_path (In directory name) = child_path directory.now name.now

-- what is found at what a directory holds, redirect-double apart, where that is no directory itself
abbrev pub found_at_child : CheckView → ℕ → PathNames → PathName × Inode → List Finding
found_at_child work i directory child =
    if is_directory child.1 then []
    else findings_alone work i (child_path directory child.0, child.1)

-- ---- the conditions by the facts

abbrev pub is_lost : KindFacts → Bool
is_lost (Moved Hidden) = true
is_lost (Moved (Open Nothing seen)) = true
is_lost _ = false

abbrev pub is_of_wrong_kind : KindFacts → Bool
is_of_wrong_kind (Moved (Open OtherShown seen)) = true
is_of_wrong_kind _ = false

abbrev pub is_open : KindFacts → Bool
is_open (Moved (Open content seen)) = seen
is_open _ = false

abbrev pub lacks_data : KindFacts → Bool
lacks_data (Metacopy None) = true
lacks_data _ = false

abbrev pub has_data_of_other_size : KindFacts → ℕ → Bool
has_data_of_other_size (Metacopy (Some own)) size = not (own == size)
has_data_of_other_size _ size = false

abbrev pub is_missing : NamedBlob → Bool
is_missing Missing = true
is_missing _ = false

abbrev pub is_of_other_length : NamedBlob → ℕ → Bool
is_of_other_length (Found long wrong) size = not (long == size)
is_of_other_length _ size = false

abbrev pub is_wrong : NamedBlob → Bool
is_wrong (Found long wrong) = wrong
is_wrong _ = false

abbrev pub is_orphan : KindFacts → Bool
is_orphan (Whiteout marked hides) = not hides
is_orphan _ = false

abbrev pub is_in_opaque : KindFacts → Bool
is_in_opaque WhiteoutInOpaque = true
is_in_opaque _ = false

abbrev pub is_outside_marked : KindFacts → Bool
is_outside_marked (Whiteout marked hides) = not marked
is_outside_marked _ = false

abbrev pub is_unmarked : KindFacts → Inode → Bool
is_unmarked kind inode = is_regular inode && is_outside_marked kind

abbrev pub impure_is_missing : Inode → Bool → Bool
impure_is_missing inode holds =
    is_directory inode && not (attribute_is inode impure_name (codes "y")) && holds

-- `opaque` and `redirect` that say nothing, on the root or elsewhere
abbrev pub opaque_says_nothing : Bool → Inode → Bool
opaque_says_nothing root inode =
    has_attribute inode opaque_name
    && (not (is_directory inode)
    || not (attribute_is inode opaque_name (codes "y")
    || attribute_is inode opaque_name (codes "x"))
    || (attribute_is inode opaque_name (codes "y") && root))

abbrev pub redirect_says_nothing : Bool → Inode → Mark → Bool
redirect_says_nothing root inode mark =
    has_attribute inode redirect_name
    && (root || is_opaque (Some mark)
    || (not (is_directory inode) && not (is_any_meta (Some mark))))

abbrev pub mark_says_nothing : Bool → Inode → Mark → Bool
mark_says_nothing root inode mark =
    opaque_says_nothing root inode
    || redirect_says_nothing root inode mark
    || metacopy_is_ignored inode (Some mark)
    || whiteout_is_ignored inode

abbrev pub tells : Facts → Code → Bool
tells facts RedirectForm = is_malformed (Some facts.mark.now)
tells facts RedirectLost = is_lost facts.kind
tells facts RedirectKind = is_of_wrong_kind facts.kind
tells facts RedirectDouble = false
tells facts RedirectOpen = is_open facts.kind
tells facts DataMissing = lacks_data facts.kind
tells facts DataSize = has_data_of_other_size facts.kind (size_of facts.inode.now)
tells facts BlobMissing = is_missing facts.blob
tells facts BlobSize = is_of_other_length facts.blob (size_of facts.inode.now)
tells facts BlobDigest = is_wrong facts.blob
tells facts OrphanWhiteout = is_orphan facts.kind
tells facts InOpaqueCode = is_in_opaque facts.kind
tells facts WhiteoutUnmarked = is_unmarked facts.kind facts.inode.now
tells facts ImpureMissing = impure_is_missing facts.inode.now facts.holds_origin
tells facts MarkIgnored = mark_says_nothing facts.is_root facts.inode.now facts.mark.now

-- ---- an entry of which little can be said

-- a mark that entries without attributes have
abbrev pub is_quiet_mark : Mark → Bool
is_quiet_mark Leaf = true
is_quiet_mark DirPlain = true
is_quiet_mark _ = false

abbrev pub is_other : KindFacts → Bool
is_other Other = true
is_other _ = false

-- the blob, if one is named, is there, has this length and the bytes of its name
abbrev pub is_right : NamedBlob → ℕ → Bool
is_right Unnamed size = true
is_right Missing size = false
is_right (Found long wrong) size = long == size && not wrong

-- it has no attributes
abbrev pub has_quiet_mark : Inode → Mark → Bool
has_quiet_mark inode mark = length inode.attrs == 0 && is_quiet_mark mark

-- nor do its kind and what it holds ask anything
abbrev pub is_bare : Facts → Bool
is_bare facts =
    has_quiet_mark facts.inode.now facts.mark.now && is_other facts.kind && not facts.holds_origin

-- it has no attributes, and its blob is right
abbrev pub is_silent : Inode → Mark → NamedBlob → Bool
is_silent inode mark blob = has_quiet_mark inode mark && is_right blob (size_of inode)
