-- Paths in parts that others hold.
use Rattle.std.proofs.Common.{◌≡◌, ℕ, ◌+◌, ◌-◌, ◌<◌, ◌≤◌, ◌∙◌, ◌++◌, List, length, drop, get_or, sym, ap, arith}
use Rattle.std.proofs.Math.Seq.{drop-append-add}
use Rattle.std.proofs.lemmas.List.{drop_more}
use Rattle.ovl_names.specs.Paths.{PathNames}
use Rattle.ovl_lookup.specs.PathRopes.{names_of_parts}

-- the names from a part on
pub part-next : (parts : List PathNames) (k : ℕ) (part : PathNames) → k < length parts → part ≡ get_or parts k part → names_of_parts (drop k parts) ≡ part ++ names_of_parts (drop (k + 1) parts)
part-next parts k part inside is =
    ap names_of_parts (drop_more parts k part inside)
    ∙ ap (λ (own : PathNames). own ++ names_of_parts (drop (k + 1) parts)) (sym is)

-- what is after the names of a part
pub drop-past : (names more : PathNames) (left : ℕ) → length names ≤ left → drop left (names ++ more) ≡ drop (left - length names) more
drop-past names more left past =
    let whole : left ≡ length names + (left - length names) = omega (arith, past) in
    ap (λ n. drop n (names ++ more)) whole ∙ drop-append-add names more (left - length names)
