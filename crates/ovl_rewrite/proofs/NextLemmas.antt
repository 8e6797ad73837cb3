-- The next entry of a parcel that is gone through, after those that are done.
use Rattle.std.proofs.Common.{◌≡◌, ◌<◌, ◌+◌, ◌⊎◌, inl, inr, Result, Err, ℕ, true, false, List, [], ◌∷◌, ◌++◌, length, get_or, refl, sym, ap, ◌∙◌, subst, arith, length-append}
use Rattle.ovl_inode.specs.Marks.{is_directory}
use Rattle.ovl_layer.specs.Layers.{Entries}
use Rattle.ovl_layer.specs.LayerTrees.{under, entries_from}
use Rattle.ovl_board.specs.declared.works.Parcel.{Parcel}
use Rattle.ovl_board.specs.Parcels.{parcel_view, parcel_views}
use Rattle.ovl_rewrite.specs.Directories.{NamedInode}
use Rattle.ovl_rewrite.specs.Passes.{InodesParcel, WalksUnder, StopsUnder, failed_subtree}
use Rattle.ovl_layer.specs.declared.faults.SubtreeFault.{SubtreeFault}
use Rattle.ovl_layer.specs.declared.faults.SubtreeFault.TheVariants.{NoLayer, Memory as NoMemory}
use Rattle.ovl_rewrite.specs.declared.faults.RewriteFault.{RewriteFault}
use Rattle.ovl_rewrite.specs.declared.faults.RewriteFault.TheVariants.{LimitOut, Memory}
use Rattle.ovl_rewrite.proofs.UnderLemmas.{WalksAmong, walk-directory, walk-file, stops-directory}

-- the element after others
behind : {X : Type 0} (xs : List X) (x : X) (ys : List X) (d : X) → get_or (xs ++ x ∷ ys) (length xs) d ≡ x
behind [] x ys d = refl
behind (first ∷ xs) x ys d = behind xs x ys d

module _ (before : List InodesParcel) (view : InodesParcel) (later : List InodesParcel) (first : before ≡ view ∷ later) (after : List InodesParcel) (done left : List NamedInode) (entry : NamedInode) (parts : view.seen ≡ done ++ entry ∷ left)
    (mid : Entries) (walked : WalksAmong before after (length done) mid) where
  inside : length done < length view.seen
  inside = omega (arith, ap length parts, length-append done (entry ∷ left))

  is_entry : entry ≡ get_or view.seen (length done) entry
  is_entry = sym (ap (λ (es : List NamedInode). get_or es (length done) entry) parts ∙ behind done entry left entry)

  more : length done + 1 ≡ length (done ++ entry ∷ [])
  more = sym (length-append done (entry ∷ []))

  -- one that is no directory has nothing below it
  pub next-file : is_directory entry.1 ≡ false → (kids : Entries) → kids ≡ [] → WalksAmong before after (length (done ++ entry ∷ [])) (mid ++ under entry.0 (entries_from entry.1 kids))
  next-file other kids none =
      subst (λ (n : ℕ). WalksAmong before after n (mid ++ under entry.0 (entries_from entry.1 kids))) more
      (walk-file before view later first after (length done) entry inside is_entry mid walked other kids none)

  -- ... and a directory what lies under it
  pub next-directory : is_directory entry.1 ≡ true → (last : List InodesParcel) (kids : Entries) → WalksUnder after last kids → WalksAmong before last (length (done ++ entry ∷ [])) (mid ++ under entry.0 (entries_from entry.1 kids))
  next-directory is last kids below =
      subst (λ (n : ℕ). WalksAmong before last n (mid ++ under entry.0 (entries_from entry.1 kids))) more
      (walk-directory before view later first after (length done) entry inside is_entry mid walked is last kids below)

  pub stops-below : is_directory entry.1 ≡ true → StopsUnder after → StopsUnder before
  stops-below is stops = stops-directory before view later first after (length done) entry inside is_entry mid walked is stops

  -- ... so one of either kind what was made of it
  pub next-entry : (last : List InodesParcel) (kids : Entries)
      → ((is_directory entry.1 ≡ true) × WalksUnder after last kids) ⊎ ((is_directory entry.1 ≡ false) × (kids ≡ []) × (last ≡ after))
      → WalksAmong before last (length (done ++ entry ∷ [])) (mid ++ under entry.0 (entries_from entry.1 kids))
  next-entry last kids (inl directory) = next-directory directory.0 last kids directory.1
  next-entry last kids (inr file) =
      subst (λ (vs : List InodesParcel). WalksAmong before vs (length (done ++ entry ∷ [])) (mid ++ under entry.0 (entries_from entry.1 kids))) (sym file.2) (next-file file.0 kids file.1)

-- ---- the same by what a run over parcels has

module _ {Out : Type 0} (seen : Out → List NamedInode) (rest : List (Parcel Out)) (parcel : Parcel Out) (later : List (Parcel Out)) (items : rest ≡ parcel ∷ later) (after : List InodesParcel) (done from left : List NamedInode) (entry : NamedInode)
    (parted : seen parcel.out ≡ done ++ from) (step : from ≡ entry ∷ left) (mid : Entries) (walked : WalksAmong (parcel_views seen rest) after (length done) mid) where
  parts : seen parcel.out ≡ done ++ entry ∷ left
  parts = parted ∙ ap (λ (es : List NamedInode). done ++ es) step

  pub next-walked : (last : List InodesParcel) (kids : Entries)
      → ((is_directory entry.1 ≡ true) × WalksUnder after last kids) ⊎ ((is_directory entry.1 ≡ false) × (kids ≡ []) × (last ≡ after))
      → WalksAmong (parcel_views seen rest) last (length (done ++ entry ∷ [])) (mid ++ under entry.0 (entries_from entry.1 kids))
  next-walked = next-entry (parcel_views seen rest) (parcel_view seen parcel) (parcel_views seen later) (ap (parcel_views seen) items) after done left entry parts mid walked

  pub next-stops : is_directory entry.1 ≡ true → StopsUnder after → StopsUnder (parcel_views seen rest)
  next-stops = stops-below (parcel_views seen rest) (parcel_view seen parcel) (parcel_views seen later) (ap (parcel_views seen) items) after done left entry parts mid walked

-- a walk that another name is given to, with what it leaves and what it gives
pub walks-on : {R : Type 0} (views : R → List InodesParcel) (after : List InodesParcel) (last rest : R) (kids below : Entries) → last ≡ rest → kids ≡ below → WalksUnder after (views rest) below → WalksUnder after (views last) kids
walks-on {R} views after last rest kids below moved same walk = subst (WalksUnder after (views last)) (sym same) (subst (λ (r : R). WalksUnder after (views r) below) (sym moved) walk)

-- entries were refused as those of no layer
pub no-layer : {T : Type 0} (fault : SubtreeFault) (result : Result T RewriteFault) → result ≡ Err (failed_subtree fault) → result ≡ Err LimitOut → fault ≡ NoLayer
no-layer NoLayer result told is = refl
no-layer NoMemory result told is =
    let same = sym told ∙ is in
    let bad : Memory ≡ LimitOut = cc in cc
