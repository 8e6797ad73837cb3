-- The pieces of the names that an iterator gives.
use Rattle.std.proofs.Common.{◌≡◌, ◌∙◌, Bor, Option, Result, IfOk, List, map, sym, ap}
use Rattle.std.proofs.lemmas.Iterator.{YieldsList, items_from_drains}
use Rattle.std.proofs.lemmas.Result.{IfOk-weaker}
use Rattle.std.proofs.lemmas.Simd.{map-map}
use Rattle.std.specs.Prelude.{Vec}
use Rattle.std.specs.Iterator.{Drains}
use Rattle.ovl_names.specs.Names.{PathName}
use Rattle.ovl_board.specs.declared.pieces.Piece.{Piece}
use Rattle.ovl_board.specs.Pieces.{piece_in}

module _ {S : Type 0} (steps : S → Option (Bor PathName) → S → Type 0) (names : S) (piece : Piece) where
  -- where these are the names
  pub children-of : {E A : Type 0} (result : Result (Vec Piece A) E) (own : List PathName) → YieldsList steps (λ name. name.now) names own
      → IfOk result (λ kids. (given : List (Bor PathName)) × Drains steps names given × (kids.items ≡ map (λ name. piece_in piece name.now) given)) → IfOk result (λ kids. kids.items ≡ map (piece_in piece) own)
  children-of result own yields =
      IfOk-weaker result _ _ (λ kids h. h.2 ∙ (sym (map-map (piece_in piece) (λ (name : Bor PathName). name.now) h.0) ∙ ap (map (piece_in piece)) (items_from_drains h.0 (h.1.1.0, h.1.1.1, λ _. (h.1.0, h.1.1.2)) yields)))
