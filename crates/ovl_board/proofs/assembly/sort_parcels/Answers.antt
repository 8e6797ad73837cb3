use Rattle.std.proofs.Common.{◌≡◌, ap, is_lt, Result, Ok, Err, OnOk, rules}
use Rattle.std.proofs.lemmas.List.Sorted.{answers_always}
use Rattle.ovl_board.specs.Pieces.{piece_cmp}
use Rattle.ovl_board.proofs.SortLemmas.{sorted-OnOk, ranks_parcels}
use Rattle.ovl_board.proofs.assembly.sort_parcels.Goals as goal

at_ok : {T E : Type 0} {P Q : Type 0} (r : Result T E) → (P → Q) → OnOk r P → OnOk r Q
at_ok (Ok x) f h = f h
at_ok (Err e) f h = tt

pub returns-clause-sorted : goal.returns-clause-sorted
returns-clause-sorted g c =
    sorted-OnOk c.sort_by.result c.sort_by.new.self.items
    (at_ok c.sort_by.result (λ sorted. sorted _ ranks_parcels (answers_always _ _ _ (λ f a r f' k. let m = k.met in let e : r ≡ piece_cmp a.0.now.piece a.1.0.now.piece = search rules in ap is_lt e))) c.sort_by.ensures.sorted)
