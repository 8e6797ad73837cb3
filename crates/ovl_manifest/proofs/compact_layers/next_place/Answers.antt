use Rattle.std.proofs.Common.{◌≡◌, ◌∙◌, List, ℕ, true, sym, ap, subst, take, arith}
use Rattle.ovl_names.specs.Names.{is_name}
use Rattle.ovl_names.specs.Paths.{PathNames, child_path}
use Rattle.ovl_layer.specs.TextPaths.{slashed}
use Rattle.ovl_layer.specs.SheetBuilders.{last_path}
use Rattle.ovl_layer.proofs.WayLemmas.{child_limits}
use Rattle.ovl_manifest.proofs.compact_layers.next_place.Goals as goal

pub comes_before_child-requires-clause-depth : goal.comes_before_child-requires-clause-depth
comes_before_child-requires-clause-depth c = (c.in_ok-depth.ensures (last_path c.args.builder.now) c.requires.last c.requires.ends).0

pub is_directory_above-requires-clause-depth : goal.is_directory_above-requires-clause-depth
is_directory_above-requires-clause-depth c = (c.in_ok-depth.ensures (last_path c.args.builder.now) c.requires.last c.requires.ends).0

pub returns-then-is_directory_above-clause-text : goal.returns-then-is_directory_above-clause-text
returns-then-is_directory_above-clause-text c =
    let last : PathNames = last_path c.args.builder.now in
    let beside = c.in_ok-depth.ensures last c.requires.last c.requires.ends in
    beside.1 ∙ ap (λ (name : List ℕ). slashed (child_path (take c.in_ok-depth.depth last) name)) (sym (c.in-Ok.ensures).0)

pub returns-then-is_directory_above-clause-entry : goal.returns-then-is_directory_above-clause-entry
returns-then-is_directory_above-clause-entry c =
    let last : PathNames = last_path c.args.builder.now in
    let beside = c.in_ok-depth.ensures last c.requires.last c.requires.ends in
    let spelled : c.args.text.now ≡ slashed (child_path (take c.in_ok-depth.depth last) c.in-Ok.name) =
    beside.1 ∙ ap (λ (name : List ℕ). slashed (child_path (take c.in_ok-depth.depth last) name)) (sym (c.in-Ok.ensures).0) in
    record {
      within = beside.0;
      after = sym c.comes_before_child.ensures ∙ c.if-comes_before_child.true;
      directory = sym c.is_directory_above.ensures ∙ c.if-is_directory_above.true;
      named = subst (λ (own : List ℕ). is_name own ≡ true) (sym (c.in-Ok.ensures).0) (c.in-Ok.ensures).1;
      sound = c.requires.sound;
      unescaped = sym c.if-has_escaped_name.ensures;
      limited = child_limits last c.in_ok-depth.depth c.in-Ok.name c.args.text.now spelled (omega (arith, c.if-depth-ge-DEPTH_LIMIT.false)) (omega (arith, c.if-text-gt-TEXT_LIMIT.false));
      room = c.requires.room;
    }
