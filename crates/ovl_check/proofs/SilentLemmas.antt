-- Entries of which little can be said.
use Rattle.std.proofs.Common.{◌≡◌, ◌∙◌, ℕ, Bool, true, false, cond, Option, List, [], ◌∷◌, length, refl, sym, ap, arith, eqb-true}
use Rattle.std.specs.Prelude.{◌&&◌, ◌==◌, not, codes, filter, Some}
use Rattle.std.proofs.Math.Bool.{and-false}
use Rattle.ovl_names.proofs.Ascending.{both, not_true}
use Rattle.ovl_inode.specs.declared.inodes.Inode.{Inode}
use Rattle.ovl_inode.specs.declared.marks.Mark.{Mark}
use Rattle.ovl_inode.specs.declared.marks.Mark.TheVariants.{Leaf, DirPlain, DirMoved, Whiteout, Meta}
use Rattle.ovl_inode.specs.declared.marks.Redirect.{Redirect}
use Rattle.ovl_inode.specs.Kinds.{size_of}
use Rattle.ovl_inode.specs.Marks.{is_directory, is_regular, attribute_is}
use Rattle.ovl_inode.specs.Attributes.{impure_name}
use Rattle.ovl_lookup.specs.Sound.{is_malformed}
use Rattle.ovl_check.specs.declared.findings.Code.{Code}
use Rattle.ovl_check.specs.declared.findings.Code.TheVariants.{RedirectForm, BlobMissing, BlobSize, BlobDigest, WhiteoutUnmarked, ImpureMissing, MarkIgnored}
use Rattle.ovl_check.specs.declared.facts.KindFacts.{KindFacts}
use Rattle.ovl_check.specs.declared.facts.KindFacts.TheVariants.{Other}
use Rattle.ovl_check.specs.declared.facts.NamedBlob.{NamedBlob}
use Rattle.ovl_check.specs.declared.facts.NamedBlob.TheVariants.{Unnamed, Missing, Found}
use Rattle.ovl_check.specs.declared.facts.Facts.{Facts}
use Rattle.ovl_check.specs.Codes.{all_codes, blob_codes, is_blob_fault}
use Rattle.ovl_check.specs.Facts.{tells, is_missing, is_of_other_length, is_wrong, mark_says_nothing, is_quiet_mark, is_other, is_right, has_quiet_mark, is_bare, is_silent}

empty : {X : Type 0} (xs : List X) → (length xs == 0) ≡ true → xs ≡ []
empty [] e = refl
empty (x ∷ xs) e = let none : length (x ∷ xs) ≡ 0 = eqb-true (length (x ∷ xs)) 0 e in absurd (omega (arith, none))

quiet-mark : (mark : Mark) → is_quiet_mark mark ≡ true → is_malformed (Some mark) ≡ false
quiet-mark Leaf e = refl
quiet-mark DirPlain e = refl
quiet-mark _ e = let bad : false ≡ true = e in cc

other-kind : (kind : KindFacts) → is_other kind ≡ true → kind ≡ Other
other-kind Other e = refl
other-kind _ e = let bad : false ≡ true = e in cc

right-there : (blob : NamedBlob) (size : ℕ) → is_right blob size ≡ true → is_missing blob ≡ false
right-there Unnamed size e = refl
right-there Missing size e = let bad : false ≡ true = e in cc
right-there (Found long wrong) size e = refl

right-length : (blob : NamedBlob) (size : ℕ) → is_right blob size ≡ true → is_of_other_length blob size ≡ false
right-length Unnamed size e = refl
right-length Missing size e = refl
right-length (Found long wrong) size e = ap not (both {a = long == size} {b = not wrong} e).0

right-bytes : (blob : NamedBlob) (size : ℕ) → is_right blob size ≡ true → is_wrong blob ≡ false
right-bytes Unnamed size e = refl
right-bytes Missing size e = refl
right-bytes (Found long wrong) size e = not_true wrong (both {a = long == size} {b = not wrong} e).1

-- a test that only those pass that pass another
filter-only : {X : Type 0} (test own : X → Bool) (xs : List X) → ((x : X) → own x ≡ false → test x ≡ false) → filter test xs ≡ filter test (filter own xs)
filter-only test own [] none = refl
filter-only {X} test own (x ∷ xs) none = by (own x) refl (filter-only test own xs none)
  where
    by : (b : Bool) → own x ≡ b → filter test xs ≡ filter test (filter own xs) → cond (test x) (x ∷ filter test xs) (filter test xs) ≡ filter test (cond b (x ∷ filter own xs) (filter own xs))
    by true e later = ap (λ rest. cond (test x) (x ∷ rest) rest) later
    by false e later = ap (λ b. cond b (x ∷ filter test xs) (filter test xs)) (none x e) ∙ later

nothing-ignored : (root : Bool) (inode : Inode) (mark : Mark) → inode.attrs ≡ [] → mark_says_nothing root inode mark ≡ false
nothing-ignored root inode mark bare = rw bare refl

module _ (facts : Facts) (bare : is_bare facts ≡ true) where
  abbrev inode : Inode
  inode = facts.inode.now

  abbrev without : Bool
  without = length inode.attrs == 0

  abbrev quiet : Bool
  quiet = is_quiet_mark facts.mark.now

  abbrev plain : Bool
  plain = is_other facts.kind

  three : (((without && quiet) && plain) ≡ true) × (not facts.holds_origin ≡ true)
  three = both {a = (without && quiet) && plain} {b = not facts.holds_origin} bare

  two : ((without && quiet) ≡ true) × (plain ≡ true)
  two = both {a = without && quiet} {b = plain} three.0

  one : (without ≡ true) × (quiet ≡ true)
  one = both {a = without} {b = quiet} two.0

  kind : facts.kind ≡ Other
  kind = other-kind facts.kind two.1

  -- of its kind nothing can be said
  other-untold : (code : Code) → is_blob_fault code ≡ false → tells facts code ≡ false
  other-untold code e = ap (λ k. tells (record facts { kind = k }) code) kind ∙ untold-of code e
    where
      impure : Bool
      impure = is_directory inode && not (attribute_is inode impure_name (codes "y"))

      untold-of : (code : Code) → is_blob_fault code ≡ false → tells (record facts { kind = Other }) code ≡ false
      untold-of RedirectForm e = quiet-mark facts.mark.now one.1
      untold-of BlobMissing e = let bad : true ≡ false = e in cc
      untold-of BlobSize e = let bad : true ≡ false = e in cc
      untold-of BlobDigest e = let bad : true ≡ false = e in cc
      untold-of WhiteoutUnmarked e = and-false (is_regular inode)
      untold-of ImpureMissing e = ap (λ b. impure && b) (not_true facts.holds_origin three.1) ∙ and-false impure
      untold-of MarkIgnored e = nothing-ignored facts.is_root inode facts.mark.now (empty inode.attrs one.0)
      untold-of _ e = refl

  module _ (sought : Code → Bool) where
    abbrev Told : Code → Bool
    Told code = sought code && tells facts code

    untold : (code : Code) → tells facts code ≡ false → (sought code && tells facts code) ≡ false
    untold code e = ap (λ b. sought code && b) e ∙ and-false (sought code)

    -- the codes on blobs are all that can be said
    pub blob_codes-enough : filter (λ code. sought code && tells facts code) all_codes ≡ filter (λ code. sought code && tells facts code) blob_codes
    blob_codes-enough = filter-only Told is_blob_fault all_codes (λ code e. untold code (other-untold code e))

    -- nor are they where the blob is right
    nothing-told : is_right facts.blob (size_of inode) ≡ true → filter (λ code. sought code && tells facts code) all_codes ≡ []
    nothing-told right =
        blob_codes-enough
        ∙ (ap (λ b. cond b (BlobMissing ∷ filter Told (BlobSize ∷ BlobDigest ∷ [])) (filter Told (BlobSize ∷ BlobDigest ∷ []))) (untold BlobMissing (right-there facts.blob (size_of inode) right))
        ∙ (ap (λ b. cond b (BlobSize ∷ filter Told (BlobDigest ∷ [])) (filter Told (BlobDigest ∷ []))) (untold BlobSize (right-length facts.blob (size_of inode) right))
        ∙ ap (λ b. cond b (BlobDigest ∷ []) []) (untold BlobDigest (right-bytes facts.blob (size_of inode) right))))

-- an entry without attributes whose blob is right, and that is no directory
pub silent-told : (facts : Facts) → facts.kind ≡ Other → facts.holds_origin ≡ false → is_silent facts.inode.now facts.mark.now facts.blob ≡ true → (sought : Code → Bool) → filter (λ code. sought code && tells facts code) all_codes ≡ []
silent-told facts other none silent sought =
    let quiet = has_quiet_mark facts.inode.now facts.mark.now in
    let parts = both {a = quiet} {b = is_right facts.blob (size_of facts.inode.now)} silent in
    let bare : is_bare facts ≡ true = (λ j. (parts.0 j && is_other (other j)) && not (none j)) in
    nothing-told facts bare sought parts.1

pub silent-quiet : (inode : Inode) (mark : Mark) (blob : NamedBlob) → is_silent inode mark blob ≡ true → is_quiet_mark mark ≡ true
silent-quiet inode mark blob silent =
    (both {a = length inode.attrs == 0} {b = is_quiet_mark mark} (both {a = has_quiet_mark inode mark} {b = is_right blob (size_of inode)} silent).0).1

-- a quiet mark is none of those that the conditions of a kind ask of
pub quiet-stays : (mark : Mark) → is_quiet_mark mark ≡ true → mark ≡ Whiteout → ⊥
quiet-stays mark quiet is = let bad : false ≡ true = sym (ap is_quiet_mark is) ∙ quiet in absurd (cc)

pub quiet-full : (mark : Mark) → is_quiet_mark mark ≡ true → (redirect : Option Redirect) → mark ≡ Meta redirect → ⊥
quiet-full mark quiet redirect is = let bad : false ≡ true = sym (ap is_quiet_mark is) ∙ quiet in absurd (cc)

pub quiet-unmoved : (mark : Mark) → is_quiet_mark mark ≡ true → (redirect : Redirect) → mark ≡ DirMoved redirect → ⊥
quiet-unmoved mark quiet redirect is = let bad : false ≡ true = sym (ap is_quiet_mark is) ∙ quiet in absurd (cc)
