use Rattle.std.proofs.Common.{◌≡◌, ◌∙◌, ◌-◌, ◌++◌, ◌∷◌, [], List, ℕ, true, sym, ap, arith, length, length-append, take}
use Rattle.std.specs.Cmp.Lexicographic.{bytes_decides, pointwise_decides}
use Rattle.ovl_layer.specs.LayerBuilders.{builder_entries}
use Rattle.ovl_names.specs.Paths.{PathNames, path_eq, parent_path}
use Rattle.ovl_names.proofs.PathTexts.{parent_path-child}
use Rattle.ovl_layer.specs.Layers.{is_directory_at}
use Rattle.ovl_layer.proofs.LayerLemmas.{after-some}
use Rattle.ovl_layer.proofs.LayerBuilderLemmas.{open_dirs_length, deep, other}
use Rattle.ovl_layer.proofs.layer_builders.LayerBuilder.has_parent.Goals as goal
use Rattle.ovl_layer.proofs.layer_builders.LayerBuilder.has_parent.Goals.{then-depth-len-via-then-depth-len, then-depth-len-via-else-depth-len+then-not-starts_with}

pub returns-in_default : goal.returns-in_default
returns-in_default c =
    let none : length c.args.path.now ≡ 0 = ap length (sym c.names.ensures.value ∙ c.in_default.ensures.value) in
    absurd (omega (arith, none, after-some c.args.self.now.last c.args.path.now c.requires.after))

-- a path of one name more
more : (path above : PathNames) (name : List ℕ) → path ≡ above ++ name ∷ [] → (length path - 1 ≡ length above) × (parent_path path ≡ above)
more path above name e = (omega (arith, ap length e, length-append above (name ∷ [])), ap parent_path e ∙ parent_path-child above name)

pub returns-then-depth-len : goal.returns-then-depth-len
returns-then-depth-len c =
    let path : PathNames = c.args.path.now in
    let above : PathNames = c.in-Some.above in
    let cut = more path above c.in-Some.field-0-0.now (sym c.names.ensures.value ∙ c.in-Some.ensures.value) in
    elim c.then-depth-len.branch [
      | then-depth-len-via-then-depth-len w ↦ sym (deep c.args.self.now c.requires.builder path c.requires.after (omega (arith, w.if-depth-len.true, c.len.ensures, c.len-depth.ensures, cut.0)))
      | then-depth-len-via-else-depth-len+then-not-starts_with w ↦
          sym (other c.args.self.now c.requires.builder path c.requires.after
          ((λ j. path_eq (cut.1 j) (take (cut.0 j) (sym w.names-else-depth-len.ensures.value j))) ∙ (sym w.starts_with.ensures ∙ w.if-not-starts_with.true)))
    ]

pub is_directory_above-requires-clause-depth : goal.is_directory_above-requires-clause-depth
is_directory_above-requires-clause-depth c = omega (arith, c.if-depth-len.false, c.len.ensures, open_dirs_length c.args.self.now c.requires.builder)

pub returns : goal.returns
returns c =
    let path : PathNames = c.args.path.now in
    let last : PathNames = c.args.self.now.last in
    let above : PathNames = c.in-Some.above in
    let cut = more path above c.in-Some.field-0-0.now (sym c.names.ensures.value ∙ c.in-Some.ensures.value) in
    let same : path_eq (parent_path path) (take (length path - 1) last) ≡ true =
    (λ j. path_eq (cut.1 j) (take (cut.0 j) (sym c.names-else-depth-len.ensures.value j))) ∙ (sym c.starts_with.ensures ∙ c.if-not-starts_with.false) in
    let way : take c.len-depth.result last ≡ parent_path path =
    ap (λ n. take n last) (c.len-depth.ensures ∙ sym cut.0) ∙ sym ((pointwise_decides bytes_decides (parent_path path) (take (length path - 1) last)).0 same) in
    c.is_directory_above.ensures ∙ ap (is_directory_at (builder_entries c.args.self.now)) way
