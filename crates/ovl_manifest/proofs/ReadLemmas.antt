-- What a stated entry is.
use Rattle.std.proofs.Common.{◌≡◌, ◌≤◌, ℕ, List, [], ◌∷◌, Bool, true, false, Option, Some, None, Err, refl, sym, ap, ◌∙◌, subst, length, drop, arith, le-leb, leb-true}
use Rattle.std.specs.Option.{option_and_then}
use Rattle.std.specs.Prelude.{◌==◌, not, IfSome, IsTrue, nat_eq, nat_lt, nat_le, is_some, is_none, if◌then◌else◌, flat_map, codes}
use Rattle.std.specs.List.{starts_with, list_any}
use Rattle.std.proofs.lemmas.Bool.{eqb-true}
use Rattle.std.proofs.lemmas.Bool.Decides.{nat_tests}
use Rattle.std.proofs.lemmas.Option.{option_and_then_some}
use Rattle.std.proofs.lemmas.Str.{IsUtf8-from_is_utf8, is_utf8-from_IsUtf8}
use Rattle.std.specs.Str.{IsUtf8, is_utf8}
use Rattle.serde_json.specs.Data.{Data}
use Rattle.serde_json.specs.Read.{read}
use Rattle.ovl_names.specs.Names.{slash, name_fault}
use Rattle.ovl_names.specs.Paths.{PathNames, path_fault, path_text, text_parts, parts_between, depth_limit, text_limit}
use Rattle.ovl_names.specs.declared.paths.PathFault.{PathFault}
use Rattle.ovl_names.specs.declared.paths.PathFault.TheVariants.{NotAbsolute, EmptyPart, BadPart, TooDeep, TooLong}
use Rattle.ovl_names.proofs.Ascending.{both}
use Rattle.ovl_inode.specs.Sound.{is_sound_inode}
use Rattle.ovl_layer.specs.Layers.{Entry, is_within_limits}
use Rattle.ovl_manifest.specs.Versions.{depth_of}
use Rattle.ovl_manifest.specs.declared.versions.Version.{Version}
use Rattle.ovl_manifest.specs.declared.versions.Version.TheVariants.{One, Two}
use Rattle.ovl_layer.specs.Entries.{is_statable}
use Rattle.ovl_manifest.specs.Manifest.{layer_of_value, read_layer}
use Rattle.ovl_layer.specs.declared.faults.LayerFault.TheVariants.{NotJson}
use Rattle.ovl_manifest.specs.Fields.{entry_of, entry_with, is_entry, inode_field, path_field, path_of_text, text_field}

-- ---- a path that is read keeps the limits

-- the parts of a text, with the separator before each, give it back
spelled : (rest : List ℕ) → flat_map (λ own. slash ∷ own) (parts_between rest) ≡ slash ∷ rest
spelled [] = refl
spelled (byte ∷ rest) = by (byte == slash) refl (parts_between rest) refl (spelled rest)
  where
    by : (b : Bool) → (byte == slash) ≡ b → (parts : List (List ℕ)) → parts_between rest ≡ parts → flat_map (λ own. slash ∷ own) (parts_between rest) ≡ slash ∷ rest → flat_map (λ own. slash ∷ own) (parts_between (byte ∷ rest)) ≡ slash ∷ byte ∷ rest
    by true e parts is all = rw e (λ j. slash ∷ (all ∙ ap (λ first. first ∷ rest) (sym (eqb-true byte slash e))) j)
    by false e [] is all = let bad : [] ≡ slash ∷ rest = rw is at all in cc
    by false e (own ∷ parts) is all = rw (e, is) (ap (λ (text : List ℕ). slash ∷ byte ∷ drop 1 text) (rw is at all))

absolute : (text : List ℕ) → starts_with nat_eq text (slash ∷ []) ≡ true → (rest : List ℕ) × (text ≡ slash ∷ rest)
absolute [] starts = let bad : false ≡ true = starts in cc
absolute (byte ∷ rest) starts = (rest, ap (λ first. first ∷ rest) (sym (eqb-true slash byte (both {a = nat_eq slash byte} {b = true} starts).0)))

text_of_parts : (text : List ℕ) → starts_with nat_eq text (slash ∷ []) ≡ true → path_text (text_parts text) ≡ text
text_of_parts text starts = at text (absolute text starts).0 (absolute text starts).1
  where
    parts_text : (parts : List (List ℕ)) (rest : List ℕ) → flat_map (λ own. slash ∷ own) parts ≡ slash ∷ rest → path_text parts ≡ slash ∷ rest
    parts_text [] rest all = let bad : [] ≡ slash ∷ rest = all in cc
    parts_text (own ∷ parts) rest all = all

    from : (rest : List ℕ) → path_text (text_parts (slash ∷ rest)) ≡ slash ∷ rest
    from [] = refl
    from (byte ∷ rest) = parts_text (parts_between (byte ∷ rest)) (byte ∷ rest) (spelled (byte ∷ rest))

    at : (text rest : List ℕ) → text ≡ slash ∷ rest → path_text (text_parts text) ≡ text
    at text rest is = ap (λ (t : List ℕ). path_text (text_parts t)) is ∙ (from rest ∙ sym is)

-- the tests of a path without a fault
none_of : (a b c d e : Bool) → (if not a then Some NotAbsolute else if b then Some EmptyPart else if c then Some BadPart else if d then Some TooDeep else if e then Some TooLong else None) ≡ None → (a ≡ true) × (d ≡ false) × (e ≡ false)
none_of false b c d e none = let bad : Some NotAbsolute ≡ None = none in cc
none_of true true c d e none = let bad : Some EmptyPart ≡ None = none in cc
none_of true false true d e none = let bad : Some BadPart ≡ None = none in cc
none_of true false false true e none = let bad : Some TooDeep ≡ None = none in cc
none_of true false false false true none = let bad : Some TooLong ≡ None = none in cc
none_of true false false false false none = (refl, refl, refl)

not_past : (limit n : ℕ) → nat_lt limit n ≡ false → nat_le n limit ≡ true
not_past limit n past = grind (arith, nat_tests)

-- no version has paths deeper than those of a layer
depth-limited : (version : Version) → depth_of version ≤ depth_limit
depth-limited One = omega arith
depth-limited Two = omega arith

within : (version : Version) (text : List ℕ) → path_fault (depth_of version) text ≡ None → is_within_limits (text_parts text) ≡ true
within version text none =
    let tests = none_of (starts_with nat_eq text (slash ∷ [])) (list_any (λ part. length part == 0) (text_parts text)) (list_any (λ part. is_some (name_fault part)) (text_parts text)) (nat_lt (depth_of version) (length (text_parts text))) (nat_lt text_limit (length text)) none in
    let short : nat_le (length (path_text (text_parts text))) text_limit ≡ true = ap (λ (t : List ℕ). nat_le (length t) text_limit) (text_of_parts text tests.0) ∙ not_past text_limit (length text) tests.2 in
    let shallow : nat_le (length (text_parts text)) depth_limit ≡ true =
    le-leb (length (text_parts text)) depth_limit (omega (arith, leb-true (length (text_parts text)) (depth_of version) (not_past (depth_of version) (length (text_parts text)) tests.1), depth-limited version)) in
    rw shallow short

-- ---- a stated entry is sound and keeps the limits

pub if-Some : {X : Type 0} (b : Bool) (x y : X) → (if b then Some x else None) ≡ Some y → (b ≡ true) × (x ≡ y)
if-Some true x y is = (refl, cc)
if-Some false x y is = let bad : None ≡ Some y = is in cc

pub stated : (version : Version) (value : Data) (entry : Entry) → entry_of version value ≡ Some entry → (is_sound_inode entry.1 ≡ true) × (is_within_limits entry.0 ≡ true)
stated version value entry is =
    option_and_then_some (λ path. option_and_then (entry_with version value path) (inode_field version value)) (path_field version value) entry is (λ path of_path of_inode.
    option_and_then_some (entry_with version value path) (inode_field version value) entry of_inode (λ inode has_inode made.
    let parts = if-Some (is_entry version value inode) (path, inode) entry made in
    let sound = (both parts.0).1 in
    option_and_then_some (path_of_text version) (text_field (codes "path") value) path of_path (λ text has_text read.
    let spells = if-Some (is_none (path_fault (depth_of version) text)) (text_parts text) path read in (
      subst (λ (e : Entry). is_sound_inode e.1 ≡ true) parts.1 sound,
      subst (λ (e : Entry). is_within_limits e.0 ≡ true) parts.1 (subst (λ (p : PathNames). is_within_limits p ≡ true) spells.1 (within version text (nothing text spells.0))),
    ))))
  where
    nothing : (text : List ℕ) → is_none (path_fault (depth_of version) text) ≡ true → path_fault (depth_of version) text ≡ None
    nothing text none = by (path_fault (depth_of version) text) refl
      where
        by : (o : Option PathFault) → path_fault (depth_of version) text ≡ o → path_fault (depth_of version) text ≡ None
        by None e = e
        by (Some fault) e = let bad : false ≡ true = rw e at none in cc

-- what a value states, a manifest can state
pub stated_statable : (version : Version) (value : Data) (entry : Option Entry) → entry ≡ entry_of version value → IfSome entry (λ e. IsTrue (is_statable e))
stated_statable version value None is = tt
stated_statable version value (Some entry) is = let of = stated version value entry (sym is) in rw (of.1, of.0) refl

-- ---- the text of a manifest

pub text_read : (bytes : List ℕ) (value : Data) → IsUtf8 bytes → read bytes ≡ Some value → read_layer bytes ≡ layer_of_value value
text_read bytes value utf8 reads =
    let is : (if is_utf8 bytes then read bytes else None) ≡ Some value = ap (λ b. if b then read bytes else None) (is_utf8-from_IsUtf8 bytes utf8) ∙ reads in
    rw (is, read_layer) refl

pub no_text : (bytes : List ℕ) → (IsUtf8 bytes → read bytes ≡ None) → read_layer bytes ≡ Err NotJson
no_text bytes none = let is = by (is_utf8 bytes) refl in rw (is, read_layer) refl
  where
    by : (b : Bool) → is_utf8 bytes ≡ b → (if is_utf8 bytes then read bytes else None) ≡ None
    by true e = ap (λ b. if b then read bytes else None) e ∙ none (IsUtf8-from_is_utf8 bytes e)
    by false e = ap (λ b. if b then read bytes else None) e
