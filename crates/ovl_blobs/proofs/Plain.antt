-- The parcels of a plain walk: each is the work's own, and each reached piece has one.
use Rattle.std.proofs.Common.{◌≡◌, List, [], ◌∷◌, refl, sym, ap, ◌∙◌, subst}
use Rattle.std.specs.List.{flat_map}
use Rattle.std.proofs.Common.{◌++◌}
use Rattle.ovl_board.specs.declared.pieces.Piece.{Piece}
use Rattle.ovl_board.specs.declared.works.Parcel.{Parcel}
use Rattle.ovl_board.specs.Walks.{Reached, ToKid}
use Rattle.ovl_board.specs.Parcels.{ParcelView, IsPlain, AreOwn, pieces_of, own_view, parcel_views}
use Rattle.ovl_board.proofs.LawsOfMembers.{In, In-map, In-map-cases, In-Contains}

module _ {S : Type 0} (kids : Piece → List Piece) (out : Piece → S) where
  pub own-view : (views : List (ParcelView S)) → AreOwn kids out views → (v : ParcelView S) → In v views → v ≡ own_view kids out v.piece
  own-view views own v h =
      let p = In-map-cases (own_view kids out) v (pieces_of views) (subst (In v) own h) in
      p.1.1 ∙ ap (λ (w : ParcelView S). own_view kids out w.piece) (sym p.1.1)

  pub has-view : (root : Piece) (views : List (ParcelView S)) → IsPlain kids out root views → (p : Piece) → Reached (ToKid kids) root p → In (own_view kids out p) views
  has-view root views plain p reached =
      subst (In (own_view kids out p)) (sym plain.own)
      (In-map (own_view kids out) p (pieces_of views) (In-Contains p (pieces_of views) (plain.walk.whole p reached)))

-- the outputs of parcels, as they are seen
pub seen-flat : {O S X : Type 0} (seen : O → S) (part : S → List X) (parcels : List (Parcel O)) → flat_map (λ (p : Parcel O). part (seen p.out)) parcels ≡ flat_map (λ (v : ParcelView S). part v.seen) (parcel_views seen parcels)
seen-flat seen part [] = refl
seen-flat {O} seen part (p ∷ parcels) = ap (λ rest. part (seen p.out) ++ rest) (seen-flat seen part parcels)
