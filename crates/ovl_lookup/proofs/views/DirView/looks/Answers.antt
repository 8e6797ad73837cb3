use Rattle.std.proofs.Common.{◌≡◌, ◌∙◌, ◌++◌, ◌∷◌, [], cond, List, take, sym, ap, subst}
use Rattle.std.specs.List.{All}
use Rattle.std.proofs.lemmas.List.{take_all}
use Rattle.ovl_names.specs.Names.{PathName}
use Rattle.ovl_layer.specs.Layers.{IsLayer}
use Rattle.ovl_lookup.specs.declared.looks.Look.{Look}
use Rattle.ovl_lookup.specs.declared.tops.Top.{Top}
use Rattle.ovl_lookup.specs.declared.views.DirPlace.{DirPlace}
use Rattle.ovl_lookup.specs.Stacks.{StackView, from_layer}
use Rattle.ovl_lookup.specs.Merged.{is_nothing}
use Rattle.ovl_lookup.specs.Views.{ReachedDirectory}
use Rattle.ovl_lookup.specs.ViewPasses.{AreTops, AreLooks, tops_told, looks_from_tops}
use Rattle.ovl_lookup.proofs.TopLemmas.{looks-of-tops}
use Rattle.ovl_lookup.proofs.ViewLookLemmas.{tops-lent, top-inside, top-stands, looks-more}
use Rattle.ovl_lookup.proofs.views.DirView.looks.Goals as goal

pub places_from-places-requires : goal.places_from-places-requires
places_from-places-requires c =
    let places : List DirPlace = c.args.self.now.places.items in
    let tops : List Top = c.deref-top-items.result.now in
    let are = tops-lent c.args.stack.now c.deref.result.now places tops c.in_ok-tops.tops.items c.deref.ensures.value c.deref-top-items.ensures.value c.in_ok-tops.ensures in
    top-inside c.args.stack.now places tops are c.loop-top.top-index c.top-item.result c.loop-top-test.true c.top-item.is

pub look_at-requires-clause-first : goal.look_at-requires-clause-first
look_at-requires-clause-first c =
    let places : List DirPlace = c.args.self.now.places.items in
    let tops : List Top = c.deref-top-items.result.now in
    let are = tops-lent c.args.stack.now c.deref.result.now places tops c.in_ok-tops.tops.items c.deref.ensures.value c.deref-top-items.ensures.value c.in_ok-tops.ensures in
    top-stands c.args.stack.now places tops are c.loop-top.top-index c.top-item.result c.loop-top-test.true c.top-item.is c.places_from-places.result.now c.places_from-places.ensures

pub loop-top-preserved : goal.loop-top-preserved
loop-top-preserved c =
    let places : List DirPlace = c.args.self.now.places.items in
    let tops : List Top = c.deref-top-items.result.now in
    let are = tops-lent c.args.stack.now c.deref.result.now places tops c.in_ok-tops.tops.items c.deref.ensures.value c.deref-top-items.ensures.value c.in_ok-tops.ensures in
    let more = looks-more c.args.stack.now places tops are c.loop-top.top-index c.top-item.result c.loop-top-test.true c.top-item.is c.places_from-places.result.now c.places_from-places.ensures c.in_ok-look.look c.in_ok-look.ensures in
    c.in_ok-push_look.ensures ∙ (ap (λ (looks : List (PathName × Look)). looks ++ cond (is_nothing c.in_ok-look.look) [] ((c.top-item.result.name.now, c.in_ok-look.look) ∷ [])) c.loop-top.invariant ∙ more)

pub returns : goal.returns
returns c =
    let stack : StackView = c.args.stack.now in
    let places : List DirPlace = c.args.self.now.places.items in
    let tops : List Top = c.deref-top-items.result.now in
    let each : All IsLayer stack.layers = subst (λ (s : StackView). All IsLayer s.layers) c.stack.view_is c.stack.invariant.2 in
    let are = tops-lent stack c.deref.result.now places tops c.in_ok-tops.tops.items c.deref.ensures.value c.deref-top-items.ensures.value c.in_ok-tops.ensures in
    let all : take c.loop-top.top-index tops ≡ tops = take_all c.loop-top.top-index tops c.loop-top-test.false in
    subst (λ (looks : List (PathName × Look)). AreLooks (from_layer c.args.self.now.from stack) c.args.self.now.path looks)
    (sym (c.loop-top.invariant ∙ (λ j. looks_from_tops stack (c.requires.reached j) (tops_told (all j)))))
    (looks-of-tops stack each c.args.self.now.from c.args.self.now.path (tops_told tops) (subst (λ (ps : List ReachedDirectory). AreTops stack.layers 0 ps (tops_told tops)) c.requires.reached are))
