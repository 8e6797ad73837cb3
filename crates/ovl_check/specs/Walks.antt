-- The plain walks of the layers, and the doubles that they show.
use Rattle.std.specs.Prelude.{ℕ, ◌+◌, Bool, ◌&&◌, ◌||◌, Option, Some, None, List, [], ◌∷◌, ◌++◌, if◌then◌else◌}
use Rattle.std.specs.List.{list_any, flat_map}
use Rattle.std.specs.BTreeSet.{insert_key}
use Rattle.std.specs.Ordering.{is_eq}
use Rattle.ovl_names.specs.Paths.{PathNames}
use Rattle.ovl_lookup.specs.PathRopes.{rope_cmp}
use Rattle.ovl_board.specs.Pieces.{space_root}
use Rattle.ovl_board.specs.Parcels.{ParcelView, IsPlain}
use Rattle.ovl_check.specs.declared.findings.Finding.{Finding}
use Rattle.ovl_check.specs.declared.findings.Code.TheVariants.{RedirectDouble}
use Rattle.ovl_check.specs.Findings.{finding}
use Rattle.ovl_check.specs.Checks.{CheckView, CheckSeen, check_kids, check_out}

-- what is seen of a directory's parcel
abbrev pub View : Type 0
View = ParcelView CheckSeen

-- these lists are the plain walks of the layers from layer `i` on, each from its root
abbrev pub AreLayerWalks : CheckView → ℕ → List (List View) → Type 0
AreLayerWalks work i [] = Unit {0}
AreLayerWalks work i (views ∷ more) =
    IsPlain (check_kids work) (check_out work) (space_root i) views
    × AreLayerWalks work (i + 1) more

-- the place is among those where an earlier directory goes on
abbrev pub is_among : List PathNames → PathNames → Bool
is_among places place = list_any (λ other. is_eq (rope_cmp place other)) places

-- what a directory adds to the doubles, and to the places, by those of the directories before it
abbrev pub double_at : List PathNames → View → Option PathNames → List Finding
double_at places view None = []
double_at places view (Some place) =
    if view.seen.moved && is_among places place
    then finding view.piece.space view.piece.dir RedirectDouble ∷ [] else []

abbrev pub places_with : List PathNames → Option PathNames → List PathNames
places_with places None = places
places_with places (Some place) = insert_key rope_cmp places place

-- the doubles among directories in their order
abbrev pub doubles_after : List PathNames → List View → List Finding
doubles_after places [] = []
doubles_after places (view ∷ views) =
    double_at places view view.seen.place
    ++ doubles_after (places_with places view.seen.place) views

-- the places where moved directories go on
abbrev pub moved_places : List PathNames → List View → List PathNames
moved_places places [] = places
moved_places places (view ∷ views) =
    moved_places (if view.seen.moved then places_with places view.seen.place else places) views

-- the place of a directory, if it is moved or goes on at one of these
abbrev pub if_sought : List PathNames → Bool → Option PathNames → Option PathNames
if_sought wanted moved None = None
if_sought wanted moved (Some place) = if moved || is_among wanted place then Some place else None

-- the doubles among directories in their order, where no other places count than these
abbrev pub doubles_among : List PathNames → List PathNames → List View → List Finding
doubles_among wanted places [] = []
doubles_among wanted places (view ∷ views) =
    double_at places view (if_sought wanted view.seen.moved view.seen.place)
    ++ doubles_among wanted
    (places_with places (if_sought wanted view.seen.moved view.seen.place)) views

-- all that is found in a layer, in the order of the walk
abbrev pub found_along : List View → List Finding
found_along views = doubles_after [] views ++ flat_map (λ view. view.seen.findings) views
