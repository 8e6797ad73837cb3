-- Facts on the longest prefix at which a test holds.
use Rattle.std.proofs.Common.{◌≡◌, Bool, true, false, cond, [], ◌∷◌, ◌++◌, length, drop, refl, ap, ◌∙◌}
use Rattle.ovl_names.specs.Names.{PathName}
use Rattle.ovl_names.specs.Paths.{PathNames, child_path, longest}

-- the test holds at the longest prefix, if it holds at the root
pub longest-holds : (test : PathNames → Bool) (path : PathNames) → test [] ≡ true → test (longest test path) ≡ true
longest-holds test [] root = root
longest-holds test (name ∷ names) root = by (test (name ∷ longest (λ rest. test (name ∷ rest)) names)) refl
  where
    by : (b : Bool) → test (name ∷ longest (λ rest. test (name ∷ rest)) names) ≡ b → test (cond b (name ∷ longest (λ rest. test (name ∷ rest)) names) []) ≡ true
    by true e = e
    by false e = root

-- the longest prefix and the rest are the path
pub longest-rest : (test : PathNames → Bool) (path : PathNames) → longest test path ++ drop (length (longest test path)) path ≡ path
longest-rest test [] = refl
longest-rest test (name ∷ names) = by (longest-rest (λ rest. test (name ∷ rest)) names) (test (name ∷ longest (λ rest. test (name ∷ rest)) names))
  where
    by : longest (λ rest. test (name ∷ rest)) names ++ drop (length (longest (λ rest. test (name ∷ rest)) names)) names ≡ names → (b : Bool) → cond b (name ∷ longest (λ rest. test (name ∷ rest)) names) [] ++ drop (length (cond b (name ∷ longest (λ rest. test (name ∷ rest)) names) [])) (name ∷ names) ≡ name ∷ names
    by later true = ap (λ rest. name ∷ rest) later
    by later false = refl

-- the longest prefix of a path with one more name
pub longest-child : (test : PathNames → Bool) (path : PathNames) (name : PathName) → longest test (child_path path name) ≡ cond (test (child_path path name)) (child_path path name) (longest test path)
longest-child test [] name = refl
longest-child test (first ∷ names) name =
    ap (λ found. cond (test (first ∷ found)) (first ∷ found) []) (longest-child (λ rest. test (first ∷ rest)) names name)
    ∙ by (test (first ∷ child_path names name)) refl
  where
    by : (b : Bool) → test (first ∷ child_path names name) ≡ b → cond (test (first ∷ cond b (child_path names name) (longest (λ rest. test (first ∷ rest)) names))) (first ∷ cond b (child_path names name) (longest (λ rest. test (first ∷ rest)) names)) [] ≡ cond b (first ∷ child_path names name) (longest test (first ∷ names))
    by true e = rw e refl
    by false e = refl
