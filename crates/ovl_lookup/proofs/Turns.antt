-- How the turn of a directory goes on with one more name.
use Rattle.std.proofs.Common.{◌≡◌, Bool, true, false, cond, is_some, List, [], ◌∷◌, ◌++◌, length, drop, map, sym, ap, ◌∙◌, append_assoc}
use Rattle.std.specs.Prelude.{◌||◌, unwrap_or}
use Rattle.std.specs.List.{list_any}
use Rattle.std.proofs.lemmas.List.{append-nil, map-append}
use Rattle.std.proofs.lemmas.List.Folds.{list_any-append}
use Rattle.std.proofs.Math.Bool.{or-false}
use Rattle.std.proofs.Math.Seq.{drop-append_seam}
use Rattle.ovl_names.specs.Names.{PathName}
use Rattle.ovl_names.specs.Paths.{PathNames, child_path}
use Rattle.ovl_layer.specs.Layers.{Entries}
use Rattle.ovl_lookup.specs.Walk.{mark_at, origin_path, name_in_lower, is_closing, last_jump, steps_from, steps_after_jump, turn, is_shut}
use Rattle.ovl_lookup.proofs.Longest.{longest-rest, longest-child}

any_end : {X : Type 0} → (test : X → Bool) (xs : List X) (x : X) → list_any test (xs ++ x ∷ []) ≡ (list_any test xs || test x)
any_end test xs x = list_any-append test xs (x ∷ []) ∙ ap (λ b. list_any test xs || b) (or-false (test x))

pub steps_from-child : (from names : PathNames) (name : PathName) → steps_from from (child_path names name) ≡ steps_from from names ++ (child_path (from ++ names) name, name) ∷ []
steps_from-child from [] name = ap (λ (path : PathNames). (child_path path name, name) ∷ []) (sym (append-nil from))
steps_from-child from (first ∷ names) name =
    ap (λ rest. (child_path from first, first) ∷ rest)
    (steps_from-child (child_path from first) names name
    ∙ ap (λ (path : PathNames). steps_from (child_path from first) names ++ (child_path path name, name) ∷ []) (append_assoc from (first ∷ []) names))

-- with no absolute redirect at the new name, the steps go on by one
pub steps_after_jump-stays : (layer : Entries) (path : PathNames) (name : PathName) → is_some (origin_path (mark_at layer (child_path path name))) ≡ false → last_jump layer (child_path path name) ≡ last_jump layer path
steps_after_jump-stays layer path name stays =
    longest-child (λ prefix. is_some (origin_path (mark_at layer prefix))) path name
    ∙ ap (λ b. cond b (child_path path name) (last_jump layer path)) stays

pub last_jump-moves : (layer : Entries) (path : PathNames) (name : PathName) → is_some (origin_path (mark_at layer (child_path path name))) ≡ true → last_jump layer (child_path path name) ≡ child_path path name
last_jump-moves layer path name moves =
    longest-child (λ prefix. is_some (origin_path (mark_at layer prefix))) path name
    ∙ ap (λ b. cond b (child_path path name) (last_jump layer path)) moves

-- the names after a prefix of a path, with one more name
pub rest-child : (jump path : PathNames) (name : PathName) → jump ++ drop (length jump) path ≡ path → drop (length jump) (child_path path name) ≡ child_path (drop (length jump) path) name
rest-child jump path name whole =
    ap (λ (p : PathNames). drop (length jump) (child_path p name)) (sym whole)
    ∙ (ap (drop (length jump)) (append_assoc jump (drop (length jump) path) (name ∷ []))
    ∙ drop-append_seam jump (child_path (drop (length jump) path) name))

pub steps_after_jump-child : (layer : Entries) (path : PathNames) (name : PathName) → is_some (origin_path (mark_at layer (child_path path name))) ≡ false → steps_after_jump layer (child_path path name) ≡ steps_after_jump layer path ++ (child_path path name, name) ∷ []
steps_after_jump-child layer path name stays =
    let jump : PathNames = last_jump layer path in
    let whole : jump ++ drop (length jump) path ≡ path = longest-rest (λ prefix. is_some (origin_path (mark_at layer prefix))) path in
    ap (λ (j : PathNames). steps_from j (drop (length j) (child_path path name))) (steps_after_jump-stays layer path name stays)
    ∙ (ap (steps_from jump) (rest-child jump path name whole)
    ∙ (steps_from-child jump (drop (length jump) path) name
    ∙ ap (λ (p : PathNames). steps_from jump (drop (length jump) path) ++ (child_path p name, name) ∷ []) whole))

pub turn-child : (layer : Entries) (path : PathNames) (name : PathName) → is_some (origin_path (mark_at layer (child_path path name))) ≡ false → turn layer (child_path path name) ≡ child_path (turn layer path) (name_in_lower (mark_at layer (child_path path name)) name)
turn-child layer path name stays =
    let lower : PathNames × PathName → PathName = λ step. name_in_lower (mark_at layer step.0) step.1 in
    let origin : PathNames → PathNames = λ jump. unwrap_or (origin_path (mark_at layer jump)) [] in
    ap (λ (jump : PathNames). origin jump ++ map lower (steps_after_jump layer (child_path path name))) (steps_after_jump-stays layer path name stays)
    ∙ (ap (λ steps. origin (last_jump layer path) ++ map lower steps) (steps_after_jump-child layer path name stays)
    ∙ (ap (λ names. origin (last_jump layer path) ++ names) (map-append lower (steps_after_jump layer path) ((child_path path name, name) ∷ []))
    ∙ sym (append_assoc (origin (last_jump layer path)) (map lower (steps_after_jump layer path)) (lower (child_path path name, name) ∷ []))))

pub is_shut-child : (layer : Entries) (path : PathNames) (name : PathName) → is_some (origin_path (mark_at layer (child_path path name))) ≡ false → is_shut layer (child_path path name) ≡ (is_shut layer path || is_closing (mark_at layer (child_path path name)))
is_shut-child layer path name stays =
    let closing : PathNames × PathName → Bool = λ step. is_closing (mark_at layer step.0) in
    ap (list_any closing) (steps_after_jump-child layer path name stays)
    ∙ any_end closing (steps_after_jump layer path) (child_path path name, name)

-- after an absolute redirect there is no step yet
steps_after_jump-moved : (layer : Entries) (path : PathNames) (name : PathName) → is_some (origin_path (mark_at layer (child_path path name))) ≡ true → steps_after_jump layer (child_path path name) ≡ []
steps_after_jump-moved layer path name moves =
    ap (λ (j : PathNames). steps_from j (drop (length j) (child_path path name))) (last_jump-moves layer path name moves)
    ∙ ap (steps_from (child_path path name)) (ap (drop (length (child_path path name))) (sym (append-nil (child_path path name))) ∙ drop-append_seam (child_path path name) [])

pub turn-moved : (layer : Entries) (path : PathNames) (name : PathName) → is_some (origin_path (mark_at layer (child_path path name))) ≡ true → turn layer (child_path path name) ≡ unwrap_or (origin_path (mark_at layer (child_path path name))) []
turn-moved layer path name moves =
    let lower : PathNames × PathName → PathName = λ step. name_in_lower (mark_at layer step.0) step.1 in
    let origin : PathNames → PathNames = λ jump. unwrap_or (origin_path (mark_at layer jump)) [] in
    ap (λ (jump : PathNames). origin jump ++ map lower (steps_after_jump layer (child_path path name))) (last_jump-moves layer path name moves)
    ∙ (ap (λ steps. origin (child_path path name) ++ map lower steps) (steps_after_jump-moved layer path name moves)
    ∙ append-nil (origin (child_path path name)))

pub is_shut-moved : (layer : Entries) (path : PathNames) (name : PathName) → is_some (origin_path (mark_at layer (child_path path name))) ≡ true → is_shut layer (child_path path name) ≡ false
is_shut-moved layer path name moves = ap (list_any (λ step. is_closing (mark_at layer step.0))) (steps_after_jump-moved layer path name moves)
