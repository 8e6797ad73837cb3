-- Texts that are written as they are.
use Rattle.std.proofs.Common.{◌≡◌, ℕ, List, [], ◌∷◌, Bool, true, false, refl, ap}
use Rattle.std.specs.List.{list_all}
use Rattle.ovl_names.specs.Escapes.{is_plain, escaped}

-- a text of only plain bytes is written as it is
pub escaped-plain : (bytes : List ℕ) → list_all is_plain bytes ≡ true → escaped bytes ≡ bytes
escaped-plain [] plain = refl
escaped-plain (byte ∷ bytes) plain = by (escaped-plain bytes) (is_plain byte) refl
  where
    by : (list_all is_plain bytes ≡ true → escaped bytes ≡ bytes) → (b : Bool) → is_plain byte ≡ b → escaped (byte ∷ bytes) ≡ byte ∷ bytes
    by later true e = rw e (ap (λ rest. byte ∷ rest) (later (rw e at plain)))
    by later false e = let bad : false ≡ true = rw e at plain in cc
