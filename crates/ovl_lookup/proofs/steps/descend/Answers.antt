use Rattle.std.proofs.Common.{◌≡◌, ◌+◌, ◌∙◌, ◌++◌, ◌∷◌, [], Option, Some, None, true, false, length, append_assoc, refl, sym, ap, subst, arith}
use Rattle.std.proofs.lemmas.List.{length_push}
use Rattle.ovl_names.specs.Names.{PathName}
use Rattle.ovl_names.specs.Paths.{PathNames, child_path}
use Rattle.ovl_inode.specs.declared.marks.Mark.TheVariants.{DirPlain}
use Rattle.ovl_layer.specs.Layers.{Entries, is_directory_at}
use Rattle.ovl_lookup.specs.Passes.{IsNumberAt, IsOwnDirectory}
use Rattle.ovl_lookup.proofs.LawsOfWalks.{directory_found, none-is}
use Rattle.ovl_lookup.proofs.WalkFacts.{plain-entered, root-own, sought, length-seam}
use Rattle.ovl_lookup.proofs.steps.descend.Goals.{in-DirPlain, in_default-matches}
use Rattle.ovl_lookup.proofs.steps.descend.Goals as goal

pub loop-name-init : goal.loop-name-init
loop-name-init c = (
  [],
  c.into_iter-name-iterator.ensures.into_iter_gives ∙ c.names-name-items.ensures.value,
  refl,
  root-own c.args.sheet.now c.root_number.ensures.layer c.root_number.result c.root_number.ensures.inside c.root_number.ensures.path,
)

pub returns-in_default : goal.returns-in_default
returns-in_default c =
    let layer : Entries = c.args.sheet.now in
    let way = c.loop-name.invariant in
    let name : PathName = c.in-Some.name.now in
    let stop = sought layer way.0 name c.loop-name.own.row way.3.here c.child-number.result c.child-number.ensures in
    record {
      layered = c.root_number.ensures.layer;
      above = way.0;
      rest = name ∷ c.next.new.self;
      whole = ap (λ (names : PathNames). way.0 ++ names) (sym c.in-Some.ensures.steps) ∙ way.1;
      depth = way.2;
      own = way.3;
      stop = (ap directory_found (subst (IsNumberAt layer (child_path way.0 name)) c.in_default.is stop), stop);
    }

pub returns-then-not-is_directory : goal.returns-then-not-is_directory
returns-then-not-is_directory c =
    let layer : Entries = c.args.sheet.now in
    let way = c.loop-name.invariant in
    let name : PathName = c.in-Some.name.now in
    let stop = sought layer way.0 name c.loop-name.own.row way.3.here c.child-number.result c.child-number.ensures in
    let there = subst (IsNumberAt layer (child_path way.0 name)) c.in-Some-number.is stop in
    record {
      layered = c.root_number.ensures.layer;
      above = way.0;
      rest = name ∷ c.next.new.self;
      whole = ap (λ (names : PathNames). way.0 ++ names) (sym c.in-Some.ensures.steps) ∙ way.1;
      depth = way.2;
      own = way.3;
      stop = (ap (is_directory_at layer) (sym there.1) ∙ (ap directory_found c.inode.ensures ∙ (sym c.is_directory.ensures ∙ c.if-not-is_directory.true)), there);
    }

pub loop-name-preserved : goal.loop-name-preserved
loop-name-preserved c =
    let layer : Entries = c.args.sheet.now in
    let way = c.loop-name.invariant in
    let name : PathName = c.in-Some.name.now in
    let there = subst (IsNumberAt layer (child_path way.0 name)) c.in-Some-number.is (sought layer way.0 name c.loop-name.own.row way.3.here c.child-number.result c.child-number.ensures) in
    let entered = c.in_ok-own.ensures way.0 name way.3 there.1 in (
      child_path way.0 name,
      append_assoc way.0 (name ∷ []) c.next.new.self ∙ (ap (λ (names : PathNames). way.0 ++ names) (sym c.in-Some.ensures.steps) ∙ way.1),
      ap (λ n. n + 1) way.2 ∙ sym (length_push way.0 name),
      record {
        inside = entered.inside;
        here = entered.here;
        directory = ap (is_directory_at layer) (sym there.1) ∙ (ap directory_found c.inode.ensures ∙ (sym c.is_directory.ensures ∙ c.if-not-is_directory.false));
        next = entered.next;
        closed = entered.closed;
      },
    )

pub loop-name-preserved-then-matches : goal.loop-name-preserved-then-matches
loop-name-preserved-then-matches c =
    let layer : Entries = c.args.sheet.now in
    let way = c.loop-name.invariant in
    let name : PathName = c.in-Some.name.now in
    let there = subst (IsNumberAt layer (child_path way.0 name)) c.in-Some-number.is (sought layer way.0 name c.loop-name.own.row way.3.here c.child-number.result c.child-number.ensures) in
    let unturned : c.loop-name.own.turned ≡ None = none-is c.loop-name.own.turned c.if-is_none.ensures in
    let plain : c.mark.result.now ≡ DirPlain = elim c.match-matches.branch [
      | in-DirPlain w ↦ w.in-DirPlain.is
      | in_default-matches w ↦ let bad : false ≡ true = sym w.matches-is ∙ c.if-matches.true in cc
    ] in
    let own = subst (λ (turned : Option PathNames). IsOwnDirectory layer way.0 (record { row = c.loop-name.own.row; turned = turned; closed = c.loop-name.own.closed })) unturned way.3 in (
      child_path way.0 name,
      append_assoc way.0 (name ∷ []) c.next.new.self ∙ (ap (λ (names : PathNames). way.0 ++ names) (sym c.in-Some.ensures.steps) ∙ way.1),
      ap (λ n. n + 1) way.2 ∙ sym (length_push way.0 name),
      subst (λ (turned : Option PathNames). IsOwnDirectory layer (child_path way.0 name) (record { row = c.in-Some-number.child; turned = turned; closed = c.loop-name.own.closed })) (sym unturned)
          (plain-entered layer way.0 name c.root_number.ensures.layer c.loop-name.own.row c.loop-name.own.closed own c.in-Some-number.child there.0 there.1 (c.mark.ensures ∙ ap Some plain)),
    )

pub overflow_add-depth : goal.overflow_add-depth
overflow_add-depth c =
    let way = c.loop-name.invariant in
    let whole : length c.args.rope.now ≡ length way.0 + 1 + length c.next.new.self = sym (ap length (ap (λ (names : PathNames). way.0 ++ names) (sym c.in-Some.ensures.steps) ∙ way.1)) ∙ length-seam way.0 c.in-Some.name.now c.next.new.self in
    omega (arith, whole, way.2, c.names-name-items.ensures.few)

pub enter-requires-clause-depth : goal.enter-requires-clause-depth
enter-requires-clause-depth c = c.loop-name.invariant.2 ∙ ap length (sym c.loop-name.invariant.3.here)

pub returns : goal.returns
returns c =
    let way = c.loop-name.invariant in
    record {
      layered = c.root_number.ensures.layer;
      above = way.0;
      rest = [];
      whole = ap (λ (names : PathNames). way.0 ++ names) (sym c.in-None.ensures.steps.0) ∙ way.1;
      depth = way.2;
      own = way.3;
      stop = refl;
    }
