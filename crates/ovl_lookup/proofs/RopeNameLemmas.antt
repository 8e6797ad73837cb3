-- The names of a rope that are left.
use Rattle.std.proofs.Common.{◌≡◌, Option, Some, None, Bor, ◌∙◌, ◌++◌, List, [], ◌∷◌, length, append_assoc, refl, sym, ap, arith}
use Rattle.std.specs.Iterator.{YieldsFirstRef}
use Rattle.std.proofs.lemmas.List.{append-nil}
use Rattle.ovl_names.specs.Names.{PathName}
use Rattle.ovl_names.specs.Paths.{PathNames}
use Rattle.ovl_lookup.specs.PathRopes.{names_of_parts}

pub no_parts : (parts : List PathNames) → length parts ≡ 0 → names_of_parts parts ≡ []
no_parts [] none = refl
no_parts (part ∷ parts) none = absurd (omega arith)

-- the names of parts and one more at their end
pub parts-push : (parts : List PathNames) (part : PathNames) → names_of_parts (parts ++ part ∷ []) ≡ names_of_parts parts ++ part
parts-push [] part = append-nil part
parts-push (own ∷ parts) part = ap (λ rest. own ++ rest) (parts-push parts part) ∙ sym (append_assoc own (names_of_parts parts) part)

-- ---- what a call gives and leaves

pub at_front : (r : Option (Bor PathName)) (first left tail old : PathNames) → first ++ tail ≡ old → (first ≡ [] → ⊥) → YieldsFirstRef {S = PathNames} {A = PathName} (λ names. names) first r left → YieldsFirstRef {S = PathNames} {A = PathName} (λ names. names) old r (left ++ tail)
at_front None first left tail old e some gives = absurd (some gives.0)
at_front (Some name) first left tail old e some gives = sym e ∙ ap (λ names. names ++ tail) gives
