use Rattle.std.proofs.Common.{◌≡◌, ◌<◌, ◌∙◌, ◌+◌, [], ℕ, List, Some, refl, sym, ap, length, take, arith}
use Rattle.std.specs.Prelude.{slice_get}
use Rattle.std.specs.Ordering.{is_lt}
use Rattle.std.proofs.lemmas.Bool.Decides.{nat_tests}
use Rattle.std.proofs.lemmas.Option.{slice_get_read}
use Rattle.ovl_names.specs.Names.{name_cmp}
use Rattle.ovl_names.specs.Paths.{PathNames, path_cmp, child_path}
use Rattle.ovl_layer.specs.SheetBuilders.{last_path}
use Rattle.ovl_layer.proofs.SheetLemmas.{some-same}
use Rattle.ovl_layer.proofs.SheetBuilderLemmas.{on_way, named-on_way, child_after, child_after-end}
use Rattle.ovl_layer.proofs.sheet_builders.SheetBuilder.comes_before_child.Goals as goal

pub returns-then-depth-last_depth : goal.returns-then-depth-last_depth
returns-then-depth-last_depth c =
    let last : PathNames = last_path c.args.self.now in
    let all : c.args.depth ≡ length last = grind (arith, nat_tests) in
    sym (ap (λ n. is_lt (path_cmp last (child_path (take n last) c.args.name.now))) all ∙ child_after-end last c.args.name.now)

pub index-requires : goal.index-requires
index-requires c =
    let way : List ℕ = c.args.self.now.way.items in
    let number : ℕ = c.index-number.result.now in
    let inside : c.args.depth < length (last_path c.args.self.now) = grind (arith, nat_tests) in
    let listed : slice_get way (c.args.depth + 1) ≡ Some number =
    slice_get_read way (length way) (c.args.depth + 1) number refl (omega (arith, c.requires.builder.count, inside)) c.index-number.ensures in
    omega (arith, (on_way _ _ _ c.requires.builder (c.args.depth + 1) number (omega (arith, inside)) listed).0, c.args.self.now.rows.ok.0)

pub returns-in-Some : goal.returns-in-Some
returns-in-Some c =
    let last : PathNames = last_path c.args.self.now in
    let inside : c.args.depth < length last = grind (arith, nat_tests) in
    let name = named-on_way _ _ _ c.requires.builder c.args.depth c.index-number.result.now c.index.result.now inside c.index-number.ensures c.index.ensures c.in-Some.own in
    let own = some-same c.in-Some.own _ (sym c.in-Some.is ∙ name) in
    c.is_lt.ensures
    ∙ (ap is_lt c.cmp.ensures
    ∙ ((λ j. is_lt (name_cmp (own j) c.args.name.now))
    ∙ sym (child_after last c.args.depth c.args.name.now c.in-Some.own inside)))

pub returns-in-None : goal.returns-in-None
returns-in-None c =
    let inside : c.args.depth < length (last_path c.args.self.now) = grind (arith, nat_tests) in
    let name = named-on_way _ _ _ c.requires.builder c.args.depth c.index-number.result.now c.index.result.now inside c.index-number.ensures c.index.ensures [] in
    let bad = sym c.in-None.is ∙ name in cc
