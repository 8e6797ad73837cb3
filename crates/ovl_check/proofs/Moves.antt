-- Findings that are moved from list to list, of which none is lost.
use Rattle.std.proofs.Common.{◌≡◌, List, [], ◌∷◌, ◌++◌, refl, sym, ap, ◌∙◌, subst, append_assoc}
use Rattle.std.specs.List.Sorted.{IsPermutation}
use Rattle.std.proofs.lemmas.List.Sorted.{IsPermutation-trans, IsPermutation-append_comm, IsPermutation-append_left, IsPermutation-append_right}
use Rattle.ovl_check.specs.declared.findings.Finding.{Finding}

abbrev Findings : Type 0
Findings = List Finding

-- the same elements, and equal lists on both sides
same : {xs ys zs ws : Findings} → xs ≡ ys → ws ≡ zs → IsPermutation ys zs → IsPermutation xs ws
same {xs} {ys} {zs} {ws} one other is = subst (λ (l : Findings). IsPermutation l ws) (sym one) (subst (λ (l : Findings). IsPermutation ys l) (sym other) is)

-- two parts in the other order, after a third
swapped : (xs ys zs : Findings) → IsPermutation (xs ++ (ys ++ zs)) ((xs ++ zs) ++ ys)
swapped xs ys zs = same refl (append_assoc xs zs ys) (IsPermutation-append_right xs (ys ++ zs) (zs ++ ys) (IsPermutation-append_comm ys zs))

-- the last finding of a list is moved
pub moved-last : (all findings left rest : Findings) (finding : Finding) → IsPermutation all (findings ++ left) → left ≡ rest ++ finding ∷ [] → IsPermutation all ((findings ++ finding ∷ []) ++ rest)
moved-last all findings left rest finding is last =
    IsPermutation-trans all (findings ++ (rest ++ finding ∷ [])) ((findings ++ finding ∷ []) ++ rest)
    (subst (λ (l : Findings). IsPermutation all (findings ++ l)) last is)
    (swapped findings rest (finding ∷ []))

-- what is found in one more directory is added ...
pub added : (findings waiting found new : Findings) → new ≡ findings ++ found → IsPermutation ((findings ++ waiting) ++ found) (new ++ waiting)
added findings waiting found new is = same (append_assoc findings waiting found) (ap (λ (l : Findings). l ++ waiting) is) (swapped findings waiting found)

-- ... or waits
pub kept : (findings waiting found turned new : Findings) → IsPermutation found turned → new ≡ waiting ++ turned → IsPermutation ((findings ++ waiting) ++ found) (findings ++ new)
kept findings waiting found turned new is more =
    same refl (ap (λ (l : Findings). findings ++ l) more ∙ sym (append_assoc findings waiting turned))
    (IsPermutation-append_right (findings ++ waiting) found turned is)

pub one-more : (before all middle found new : Findings) → IsPermutation (before ++ all) middle → IsPermutation (middle ++ found) new → IsPermutation (before ++ (all ++ found)) new
one-more before all middle found new is moved =
    same (sym (append_assoc before all found)) refl
    (IsPermutation-trans ((before ++ all) ++ found) (middle ++ found) new (IsPermutation-append_left found (before ++ all) middle is) moved)
