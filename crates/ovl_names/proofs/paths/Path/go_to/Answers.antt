use Rattle.std.proofs.Common.{◌≡◌, ◌<◌, ◌∙◌, ◌++◌, ◌∷◌, [], List, ℕ, length, length-append, length-take, take, string_bytes, Ok, Err, sym, ap, arith}
use Rattle.std.specs.Prelude.{Result, OnErr}
use Rattle.ovl_names.specs.Names.{slash}
use Rattle.ovl_names.specs.Paths.{PathNames, path_text, text_names, joined_text, has_names}
use Rattle.ovl_names.proofs.NameLemmas.{has_names-child, has_names-take}
use Rattle.ovl_names.proofs.PathTexts.{few_names, text_names-name, front-text, path_text-names, path_text-child}
use Rattle.ovl_names.proofs.paths.Path.go_to.Goals.{In_ok-append}
use Rattle.ovl_names.proofs.paths.Path.go_to.Goals as goal

pub truncate-requires : goal.truncate-requires
truncate-requires c =
    let above : text_names c.text-above.result.now ≡ take c.args.depth (text_names (string_bytes c.self.inside.text)) = c.text-above.ensures.value ∙ (c.first-names.ensures ∙ ap (take c.args.depth) (c.names.ensures.value ∙ sym c.self.view_is)) in
    λ less. rw c.in_ok-reserve.ensures.bytes (front-text (string_bytes c.self.inside.text) c.text-above.result.now c.args.depth c.self.invariant.1 above).1

-- the names of the text above the new name
above_names : (c : In_ok-append) → text_names c.text-above.result.now ≡ take c.args.depth (text_names (string_bytes c.self.inside.text))
above_names c = c.text-above.ensures.value ∙ (c.first-names.ensures ∙ ap (take c.args.depth) (c.names.ensures.value ∙ sym c.self.view_is))

appended : (c : In_ok-append) → text_names (string_bytes c.append.new.text) ≡ take c.args.depth (text_names (string_bytes c.self.inside.text)) ++ c.args.name.now ∷ []
appended c =
    let cut : string_bytes c.truncate.new.self ≡ c.text-above.result.now = c.truncate.ensures.bytes ∙ (ap (take (length c.text-above.result.now)) c.in_ok-reserve.ensures.bytes ∙ (front-text (string_bytes c.self.inside.text) c.text-above.result.now c.args.depth c.self.invariant.1 (above_names c)).0) in
    c.in_ok-append.ensures.names
    ∙ (λ j. (ap text_names cut ∙ above_names c) j ++ (ap text_names c.as_str-name.ensures.value ∙ text_names-name c.args.name.now c.as_str-name.ensures.name) j)

len_above : (c : In_ok-append) → c.len-len.result ≡ length (take c.args.depth (text_names (string_bytes c.self.inside.text)))
len_above c = c.len-len.ensures ∙ ap length (c.first-names.ensures ∙ ap (take c.args.depth) (c.names.ensures.value ∙ sym c.self.view_is))

pub overflow_add-self : goal.overflow_add-self
overflow_add-self c =
    let path : PathNames = text_names (string_bytes c.self.inside.text) in
    let few = few_names (string_bytes c.self.inside.text) c.self.invariant.1 in
    let len : c.len-len.result ≡ length (take c.args.depth path) = c.len-len.ensures ∙ ap length (c.first-names.ensures ∙ ap (take c.args.depth) (c.names.ensures.value ∙ sym c.self.view_is)) in
    omega (arith, few, len, length-take c.args.depth path, c.self.invariant.0, c.self.inside.text.bytes.ok.0, c.self.inside.text.bytes.ok.1, c.self.inside.text.bytes.small)

pub invariant_of-self-2 : goal.invariant_of-self-2
invariant_of-self-2 c =
    let path : PathNames = text_names (string_bytes c.self.inside.text) in (
      omega (arith, len_above c, ap length (appended c), length-append (take c.args.depth path) (c.args.name.now ∷ [])),
      ap has_names (appended c) ∙ has_names-child (take c.args.depth path) c.args.name.now (has_names-take c.args.depth path c.self.invariant.1) c.as_str-name.ensures.name,
    )

pub returns-clause-there : goal.returns-clause-there
returns-clause-there c = appended c ∙ ap (λ (path : PathNames). take c.args.depth path ++ c.args.name.now ∷ []) c.self.view_is

on_err : {T E P : Type 0} (result : Result T E) → P → OnErr result P
on_err (Ok there) fact = tt
on_err (Err fault) fact = fact

pub returns-in_err-reserve-clause-refused : goal.returns-in_err-reserve-clause-refused
returns-in_err-reserve-clause-refused c =
    let path : PathNames = c.args.self.now in
    let above : text_names c.text-above.result.now ≡ take c.args.depth path = c.text-above.ensures.value ∙ (c.first-names.ensures ∙ ap (take c.args.depth) c.names.ensures.value) in
    let named = c.as_str-name.ensures.name in
    let there : length (path_text (take c.args.depth path ++ c.args.name.now ∷ [])) ≡ length (slash ∷ joined_text c.text-above.result.now c.args.name.now) = ap length (path_text-child c.text-above.result.now c.args.name.now (take c.args.depth path) above named) in
    let here : length (path_text path) ≡ length (slash ∷ string_bytes c.self.inside.text) = ap (λ (names : PathNames). length (path_text names)) (sym c.self.view_is) ∙ ap length (path_text-names (string_bytes c.self.inside.text)) in
    let wanted : c.joined_len-wanted.result ≡ length (joined_text c.text-above.result.now c.args.name.now) = c.joined_len-wanted.ensures ∙ ap (λ (name : List ℕ). length (joined_text c.text-above.result.now name)) c.as_str-name.ensures.value in
    let longer : length (path_text path) < length (path_text (take c.args.depth path ++ c.args.name.now ∷ [])) = omega (arith, there, here, wanted, c.in_err-reserve.ensures.full, c.saturating_sub.ensures, c.len.ensures, c.self.inside.text.bytes.ok.0) in
    on_err c.from_residual.result longer
