use Rattle.std.proofs.Common.{◌≡◌, ◌<◌, ◌≤◌, ◌∙◌, ◌∷◌, ◌++◌, Some, List, ℕ, lit<, length, take, sym, ap, arith, rules}
use Rattle.std.specs.Prelude.{slice_get}
use Rattle.std.proofs.lemmas.Bool.Decides.{Decides-eqb}
use Rattle.std.proofs.Math.Seq.{take-append_seam}
use Rattle.std.proofs.lemmas.List.{take-append-drop}
use Rattle.std.proofs.lemmas.Option.{slice_get-get_or}
use Rattle.std.proofs.lemmas.Slice.Eq.{strip_prefix_is}
use Rattle.std.proofs.lemmas.Str.Pattern.{strip_prefix_char}
use Rattle.ovl_names.specs.Names.{slash}
use Rattle.ovl_layer.specs.TextPaths.{slashed}
use Rattle.ovl_layer.proofs.SheetLemmas.{some-same}
use Rattle.ovl_layer.proofs.WayLemmas.{slashed-child, slashed-front}
use Rattle.ovl_manifest.proofs.text_paths.place_beside.Goals as goal

pub returns : goal.returns
returns c = λ path spelled are.
    let text : List ℕ = c.args.text.now in
    let last : List ℕ = c.args.last.now in
    let directory : List ℕ = c.in_ok-directory.directory.now in
    let rest : List ℕ = c.in_ok-directory.rest.now in
    let name : List ℕ = c.in_ok-name.name.now in
    let below : List ℕ = c.in_ok-_below._below.now in
    let depth : ℕ = c.in_ok-depth.depth in
    let inside : depth < length c.args.ends.now = search rules in
    let read : slice_get c.args.ends.now depth ≡ Some (length directory) =
    slice_get-get_or c.args.ends.now depth 0 inside ∙ ap Some (sym c.in_ok-directory.ensures.front_len) in
    let above : List ℕ = slashed (take depth path) in
    let within : depth ≤ length path = omega (arith, inside, are.count) in
    let long : length directory ≡ length above = some-same _ _ (sym read ∙ are.places depth within) in
    let apart : last ≡ directory ++ below =
    sym c.as_bytes.ensures.value ∙ (strip_prefix_is Decides-eqb c.as_bytes.result.now c.as_bytes-2.result.now (Some c.in_ok-_below._below) c.in_ok-_below.ensures.cases ∙ ap (λ (own : List ℕ). own ++ below) c.as_bytes-2.ensures.value) in
    let front : directory ≡ above =
    sym (take-append_seam directory below) ∙ (ap (take (length directory)) (sym apart) ∙ (ap (take (length directory)) (sym spelled) ∙ (ap (λ (n : ℕ). take n (slashed path)) long ∙ slashed-front path depth))) in
    let whole : text ≡ directory ++ rest = sym (take-append-drop _ text) ∙ (λ j. sym c.in_ok-directory.ensures.front j ++ sym c.in_ok-directory.ensures.back j) in
    let behind : rest ≡ slash ∷ name = strip_prefix_char 47 rest (Some c.in_ok-name.name) c.in_ok-name.ensures.cases (lit< tt) in (
      within,
      whole ∙ ((λ j. front j ++ behind j) ∙ sym (slashed-child (take depth path) name)),
    )
