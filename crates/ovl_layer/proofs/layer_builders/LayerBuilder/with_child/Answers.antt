use Rattle.std.proofs.Common.{◌≡◌, ◌∙◌, Option, Ok, Some, sym, ap, subst, arith, take}
use Rattle.std.specs.Prelude.{MatchResult}
use Rattle.ovl_names.specs.Paths.{PathNames, child_path}
use Rattle.ovl_inode.specs.Sound.{is_sound_inode}
use Rattle.ovl_names.proofs.Ascending.{both}
use Rattle.ovl_layer.specs.Layers.{Entry, Entries, is_within_limits}
use Rattle.ovl_layer.specs.Entries.{entry_after, stated_pair, is_statable, IsFaultOf}
use Rattle.ovl_layer.specs.LayerBuilders.{builder_entries, IsLayerBuilder}
use Rattle.ovl_layer.proofs.BackLemmas.{stated-own}
use Rattle.ovl_layer.proofs.EntryLemmas.{stated_pair_statable, on_way}
use Rattle.ovl_layer.proofs.layer_builders.LayerBuilder.with_child.Goals as goal

pub with_entry-requires-clause-stated : goal.with_entry-requires-clause-stated
with_entry-requires-clause-stated c = stated_pair_statable (c.in_ok-path.path, c.args.inode) c.stated.result c.stated.ensures

pub returns-then-not-is_within : goal.returns-then-not-is_within
returns-then-not-is_within c =
    let before : Entries = builder_entries c.args.self in
    subst (λ (o : Option Entry). MatchResult c.with_entry.result
    (λ more. (entry_after before o ≡ Ok (builder_entries more)) × IsLayerBuilder more)
    (λ fault. IsFaultOf (entry_after before o) fault))
    (c.stated.ensures ∙ ap (λ (path : PathNames). stated_pair (path, c.args.inode)) c.in_ok-path.ensures) c.with_entry.ensures

pub with_child_on_way-requires-clause-depth : goal.with_child_on_way-requires-clause-depth
with_child_on_way-requires-clause-depth c = omega (arith, c.len.ensures, (on_way c.args.self.last c.args.directory.now (sym c.is_within.ensures ∙ c.if-not-is_within.false)).1)

pub with_child_on_way-requires-clause-stated : goal.with_child_on_way-requires-clause-stated
with_child_on_way-requires-clause-stated c =
    let way = on_way c.args.self.last c.args.directory.now (sym c.is_within.ensures ∙ c.if-not-is_within.false) in
    ap (λ (path : PathNames). is_statable (child_path path c.args.name, c.args.inode)) (ap (λ n. take n c.args.self.last) c.len.ensures ∙ way.0)
    ∙ (sym c.is_child_statable.ensures ∙ c.if-not-is_child_statable.false)

pub returns : goal.returns
returns c =
    let before : Entries = builder_entries c.args.self in
    let pair : Entry = (child_path c.args.directory.now c.args.name, c.args.inode) in
    let way = on_way c.args.self.last c.args.directory.now (sym c.is_within.ensures ∙ c.if-not-is_within.false) in
    let parts = both {a = is_within_limits pair.0} {b = is_sound_inode pair.1} (sym c.is_child_statable.ensures ∙ c.if-not-is_child_statable.false) in
    let same : ◌≡◌ {A = Option Entry} (Some (child_path (take c.len.result c.args.self.last) c.args.name, c.args.inode)) (stated_pair pair) =
    ap (λ (path : PathNames). Some (child_path path c.args.name, c.args.inode)) (ap (λ n. take n c.args.self.last) c.len.ensures ∙ way.0)
    ∙ sym (stated-own pair parts.0 parts.1) in
    subst (λ (o : Option Entry). MatchResult c.with_child_on_way.result
    (λ more. (entry_after before o ≡ Ok (builder_entries more)) × IsLayerBuilder more)
    (λ fault. IsFaultOf (entry_after before o) fault)) same c.with_child_on_way.ensures
