use Rattle.std.proofs.Common.{◌∙◌, ◌<◌, ◌∷◌, ◌++◌, [], arith, ap, length, subst, sym, take}
use Rattle.std.proofs.lemmas.List.{length-set, take_more}
use Rattle.std.proofs.lemmas.Option.{slice_get_within}
use Rattle.ovl_files.specs.Slots.{IsToldAmong}
use Rattle.ovl_files.proofs.SlotLemmas.{slots_more, told_put}
use Rattle.ovl_files.proofs.slots.Slots.put.Goals as goal

pub index_mut-requires : goal.index_mut-requires
index_mut-requires c =
    let is = subst (IsToldAmong c.args.names.now) (sym c.one-item.is) (c.requires.told c.loop-one.one-index c.one-item.result c.loop-one-test.true) in
    omega (arith, slice_get_within c.args.names.now _ is.0 is.1.0, c.loop-one.invariant.0)

pub loop-one-preserved : goal.loop-one-preserved
loop-one-preserved c =
    let told = c.args.told.now in
    let place = c.loop-one.one-index in
    let one = c.one-item.result in
    let slots = c.loop-one.self.told.items in
    let is = subst (IsToldAmong c.args.names.now) (sym c.one-item.is) (c.requires.told place one c.loop-one-test.true) in
    let inside : one.number < length slots = omega (arith, slice_get_within c.args.names.now _ is.0 is.1.0, c.loop-one.invariant.0) in
    let more = take_more told place one c.loop-one-test.true ∙ ap (λ next. take place told ++ next ∷ []) (sym c.one-item.is) in (
      length-set slots _ _ ∙ c.loop-one.invariant.0,
      (
        slots_more c.args.names.now slots one c.loop-one.invariant.1.0 is inside,
        λ number. rw more (told_put c.args.self.now.told.items slots (take place told) one number inside (c.loop-one.invariant.1.1 number)),
      ),
    )
