-- The plain walk has all pieces that are reached, each once, in order.
use Rattle.std.proofs.Common.{◌≡◌, ℕ, ◌-◌, List, [], ◌∷◌, ◌++◌, length, map, sym, ap, ◌∙◌, arith, append-nil, append_assoc}
use Rattle.std.proofs.lemmas.List.{map-append}
use Rattle.std.proofs.lemmas.List.Concat.{flat_map-append}
use Rattle.std.specs.List.{flat_map}
use Rattle.ovl_board.specs.declared.pieces.Piece.{Piece}
use Rattle.ovl_board.specs.Pieces.{HasLawfulKids}
use Rattle.ovl_board.specs.Walks.{preorder}
use Rattle.ovl_board.specs.declared.works.Parcel.{Parcel}
use Rattle.ovl_board.specs.Parcels.{parcel_view, parcel_views, own_view}
use Rattle.ovl_board.proofs.LawsOfWalks.{preorder_step}

-- one more kid was walked
pub walk_more : {N : Type 0} (own : Piece → N) (f : Piece → List Piece) (base cur after : List N) (ys : List Piece) (y : Piece) (fy : List Piece)
    → cur ≡ base ++ map own (flat_map f ys) → after ≡ cur ++ map own fy → fy ≡ f y → after ≡ base ++ map own (flat_map f (ys ++ y ∷ []))
walk_more own f base cur after ys y fy a b c =
    b ∙ ap (λ z. z ++ map own fy) a ∙ append_assoc base (map own (flat_map f ys)) (map own fy)
    ∙ ap (λ z. base ++ z) (sym (map-append own (flat_map f ys) fy) ∙ ap (map own) (ap (λ z. flat_map f ys ++ z) (c ∙ sym (append-nil (f y))) ∙ sym (flat_map-append f ys (y ∷ []))))

node_same : {S : Type 0} (p : Piece) (ks js : List Piece) (s t : S) → ks ≡ js → s ≡ t → own_view (λ _. ks) (λ _. s) p ≡ own_view (λ _. js) (λ _. t) p
node_same p ks js s t a b = ap (λ k. own_view (λ _. k) (λ _. s) p) a ∙ ap (λ u. own_view (λ _. js) (λ _. u) p) b

ended : {X : Type 0} (xs rest all : List X) → length rest ≡ 0 → xs ++ rest ≡ all → xs ≡ all
ended xs [] all z e = sym (append-nil xs) ∙ e
ended xs (x ∷ rest) all z e = absurd (omega arith)

-- all kids were walked
pub walk_done : {O S : Type 0} (seen : O → S) (kids : Piece → List Piece) (out : Piece → S) (deepest : ℕ) → HasLawfulKids kids deepest → (parcel : Parcel O) (old pushed cur : List (Parcel O)) (yielded rest : List Piece)
    → pushed ≡ old ++ parcel ∷ [] → parcel.kids.items ≡ kids parcel.piece → seen parcel.out ≡ out parcel.piece → length rest ≡ 0 → yielded ++ rest ≡ kids parcel.piece
    → parcel_views seen cur ≡ parcel_views seen pushed ++ map (own_view kids out) (flat_map (λ q. preorder kids (deepest - length parcel.piece.dir - 1) q) yielded)
    → parcel_views seen cur ≡ parcel_views seen old ++ map (own_view kids out) (preorder kids (deepest - length parcel.piece.dir) parcel.piece)
walk_done seen kids out deepest law parcel old pushed cur yielded rest p k s z e h =
    let own = own_view kids out in
    let f : Piece → List Piece = λ q. preorder kids (deepest - length parcel.piece.dir - 1) q in
    let all : yielded ≡ kids parcel.piece = ended yielded rest (kids parcel.piece) z e in
    let node : parcel_view seen parcel ≡ own parcel.piece = node_same parcel.piece parcel.kids.items (kids parcel.piece) (seen parcel.out) (out parcel.piece) k s in
    let push : parcel_views seen pushed ≡ parcel_views seen old ++ own parcel.piece ∷ [] = ap (parcel_views seen) p ∙ map-append (parcel_view seen) old (parcel ∷ []) ∙ ap (λ n. parcel_views seen old ++ n ∷ []) node in
    h ∙ ap (λ y. parcel_views seen pushed ++ map own (flat_map f y)) all ∙ ap (λ n. n ++ map own (flat_map f (kids parcel.piece))) push
    ∙ append_assoc (parcel_views seen old) (own parcel.piece ∷ []) (map own (flat_map f (kids parcel.piece)))
    ∙ ap (λ l. parcel_views seen old ++ map own l) (sym (preorder_step kids deepest law parcel.piece))
