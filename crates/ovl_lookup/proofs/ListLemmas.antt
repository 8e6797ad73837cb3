-- The merged tree as a list.
use Rattle.std.proofs.Common.{◌≡◌, ℕ, zero, suc, ◌+◌, ◌-◌, ◌<◌, length, get_or, take, List, [], ◌∷◌, ◌++◌, refl, sym, ap, ◌∙◌, arith, append_assoc}
use Rattle.std.specs.List.{flat_map}
use Rattle.std.proofs.lemmas.List.{append-nil, take_more, map-append}
use Rattle.ovl_names.specs.Names.{PathName}
use Rattle.ovl_names.specs.Paths.{PathNames, child_path}
use Rattle.ovl_lookup.specs.declared.looks.Look.{Look}
use Rattle.ovl_lookup.specs.Stacks.{StackView}
use Rattle.ovl_lookup.specs.Merged.{look}
use Rattle.ovl_lookup.specs.Passes.{kids_along, looks_under, looks_placed, looks_from}

abbrev pub Looks : Type 0
Looks = List (PathNames × Look)

-- ---- what is at a path

-- the list itself
abbrev pub flat : List PathName → (PathName → Looks) → Looks
flat names of = flat_map (λ name. looks_under name (of name)) names

-- ---- the list, name by name

placed-under : (path : PathNames) (name : PathName) (looks : Looks) → looks_placed path (looks_under name looks) ≡ looks_placed (child_path path name) looks
placed-under path name [] = refl
placed-under path name (entry ∷ looks) = λ j. (sym (append_assoc path (name ∷ []) entry.0) j, entry.1) ∷ placed-under path name looks j

placed-append : (path : PathNames) (one other : Looks) → looks_placed path (one ++ other) ≡ looks_placed path one ++ looks_placed path other
placed-append path one other = map-append (λ (entry : PathNames × Look). (path ++ entry.0, entry.1)) one other

flat-append : (one other : List PathName) (of : PathName → Looks) → flat (one ++ other) of ≡ flat one of ++ flat other of
flat-append [] other of = refl
flat-append (name ∷ one) other of =
    ap (λ (rest : Looks). looks_under name (of name) ++ rest) (flat-append one other of)
    ∙ sym (append_assoc (looks_under name (of name)) (flat one of) (flat other of))

pub placed-more : (path : PathNames) (names : List PathName) (i : ℕ) (name : PathName) (of : PathName → Looks) → i < length names → name ≡ get_or names i name → looks_placed path (flat (take (i + 1) names) of) ≡ looks_placed path (flat (take i names) of) ++ looks_placed (child_path path name) (of name)
placed-more path names i name of inside is =
    ap (λ (taken : List PathName). looks_placed path (flat taken of)) (take_more names i name inside ∙ ap (λ (n : PathName). take i names ++ n ∷ []) (sym is))
    ∙ (ap (looks_placed path) (flat-append (take i names) (name ∷ []) of)
    ∙ (placed-append path (flat (take i names) of) (flat (name ∷ []) of)
    ∙ ap (λ (rest : Looks). looks_placed path (flat (take i names) of) ++ rest)
    (ap (looks_placed path) (append-nil (looks_under name (of name))) ∙ placed-under path name (of name))))

pub looks_from-some : (depth : ℕ) (stack : StackView) (path : PathNames) → 0 < depth → looks_from depth stack path ≡ ([], look stack path) ∷ flat (kids_along stack path) (λ name. looks_from (depth - 1) stack (child_path path name))
looks_from-some zero stack path some = absurd (omega arith)
looks_from-some (suc depth) stack path some =
    let less : suc depth - 1 ≡ depth = omega arith in
    ap (λ (d : ℕ). ([], look stack path) ∷ flat (kids_along stack path) (λ name. looks_from d stack (child_path path name))) (sym less)

pub placed-whole : (depth : ℕ) (stack : StackView) (path : PathNames) (names : List PathName) → 0 < depth → names ≡ kids_along stack path → (path, look stack path) ∷ looks_placed path (flat names (λ name. looks_from (depth - 1) stack (child_path path name))) ≡ looks_placed path (looks_from depth stack path)
placed-whole depth stack path names some is =
    (λ j. (sym (append-nil path) j, look stack path) ∷ looks_placed path (flat (is j) (λ name. looks_from (depth - 1) stack (child_path path name))))
    ∙ sym (ap (looks_placed path) (looks_from-some depth stack path some))
