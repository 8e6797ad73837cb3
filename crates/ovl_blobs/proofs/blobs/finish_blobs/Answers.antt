use Rattle.std.proofs.Common.{◌≡◌, ◌∙◌, sym, subst}
use Rattle.std.proofs.lemmas.List.Filters.{dedup_is}
use Rattle.std.proofs.lemmas.List.Kept.{Contains-dedup, Contains-from_dedup, IsStrictlySortedBy-dedup}
use Rattle.std.proofs.lemmas.List.Sorted.{Contains-permutation, IsPermutation-sym}
use Rattle.std.specs.Cmp.Lexicographic.{nat_list_cmp_total, nat_list_eq_equiv, texts_ties, bytes_decides}
use Rattle.std.specs.Str.{bytes_eq}
use Rattle.std.specs.List.{dedup}
use Rattle.ovl_board.specs.Parcels.{parcel_views}
use Rattle.ovl_board.proofs.LawsOfMembers.{In, Contains-In, In-Contains}
use Rattle.ovl_blobs.specs.Blobs.{digest_cmp}
use Rattle.ovl_blobs.proofs.Ascent.{Rises-sorted}
use Rattle.ovl_blobs.proofs.Plain.{seen-flat}
use Rattle.ovl_blobs.proofs.BlobLemmas.{names-are}
use Rattle.ovl_blobs.proofs.blobs.finish_blobs.Goals as goal

pub returns : goal.returns
returns c up =
    let before = c.in_ok-names.names.items in
    let sorted = c.sort.new.self.items in
    let after = c.dedup.new.self.items in
    let is = dedup_is bytes_eq sorted after c.dedup.ensures.filtered in
    let seen : before ≡ _ = c.in_ok-names.ensures ∙ seen-flat (λ names. names.items) (λ names. names) c.args.parcels.items in
    names-are c.args._work.now (parcel_views (λ names. names.items) c.args.parcels.items) c.requires after up
    (Rises-sorted digest_cmp after (rw is (IsStrictlySortedBy-dedup nat_list_cmp_total texts_ties sorted c.in_ok-sort.ensures.sorted)))
    (λ name h. subst (In name) seen (In-Contains name before (Contains-permutation sorted before name (IsPermutation-sym before sorted c.sort.ensures.permutation) (Contains-from_dedup bytes_eq sorted name (Contains-In name (dedup bytes_eq sorted) (subst (In name) is h))))))
    (λ name h. subst (In name) (sym is) (In-Contains name _ (Contains-dedup nat_list_eq_equiv (λ x y e. (bytes_decides x y).0 e) sorted name (Contains-permutation before sorted name c.sort.ensures.permutation (Contains-In name before (subst (In name) (sym seen) h))))))
