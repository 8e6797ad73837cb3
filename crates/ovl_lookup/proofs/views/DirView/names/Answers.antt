use Rattle.std.proofs.Common.{◌≡◌, ◌∙◌, ◌++◌, ◌∷◌, [], Bool, cond, List, take, map, sym, ap, subst}
use Rattle.std.specs.Prelude.{not}
use Rattle.std.specs.List.{All}
use Rattle.std.proofs.lemmas.List.{append-nil, take_all}
use Rattle.ovl_names.specs.Names.{PathName}
use Rattle.ovl_layer.specs.Layers.{IsLayer}
use Rattle.ovl_lookup.specs.declared.tops.Top.{Top}
use Rattle.ovl_lookup.specs.declared.views.DirPlace.{DirPlace}
use Rattle.ovl_lookup.specs.Stacks.{StackView, from_layer}
use Rattle.ovl_lookup.specs.Merged.{AreKids}
use Rattle.ovl_lookup.specs.Views.{ReachedDirectory}
use Rattle.ovl_lookup.specs.ViewPasses.{AreTops, tops_told, looks_from_tops}
use Rattle.ovl_lookup.specs.DirViews.{places_in}
use Rattle.ovl_lookup.proofs.TopLemmas.{looks-of-tops}
use Rattle.ovl_lookup.proofs.ViewLookLemmas.{tops-lent, names-more}
use Rattle.ovl_lookup.proofs.views.DirView.names.Goals as goal
use Rattle.ovl_lookup.proofs.views.DirView.names.Goals.{then-not-is_whiteout+in_ok-copy+in_ok-push, else-not-is_whiteout}

pub loop-top-preserved : goal.loop-top-preserved
loop-top-preserved c =
    let stack : StackView = c.args.stack.now in
    let places : List DirPlace = c.args.self.now.places.items in
    let tops : List Top = c.deref-top-items.result.now in
    let name : PathName = c.top-item.result.name.now in
    let are = tops-lent stack c.deref.result.now places tops c.in_ok-tops.tops.items c.deref.ensures.value c.deref-top-items.ensures.value c.in_ok-tops.ensures in
    let before : List PathName = map (λ e. e.0) (looks_from_tops stack (places_in stack places) (tops_told (take c.loop-top.top-index tops))) in
    let more = names-more stack places tops are c.loop-top.top-index c.top-item.result c.loop-top-test.true c.top-item.is c.is_whiteout.result c.is_whiteout.ensures in
    elim c.if-not-is_whiteout.branch [
      | then-not-is_whiteout+in_ok-copy+in_ok-push w ↦
          ap (λ v. v.items) w.names-is
          ∙ (w.in_ok-push.ensures.items
          ∙ ((λ j. c.loop-top.invariant j ++ w.in_ok-copy.ensures j ∷ [])
          ∙ sym (more ∙ ap (λ (b : Bool). before ++ cond (not b) (name ∷ []) []) w.if-not-is_whiteout.true)))
      | else-not-is_whiteout w ↦
          ap (λ v. v.items) w.names-is
          ∙ (c.loop-top.invariant
          ∙ sym (more ∙ (ap (λ (b : Bool). before ++ cond (not b) (name ∷ []) []) w.if-not-is_whiteout.false ∙ append-nil before)))
    ]

pub returns : goal.returns
returns c =
    let stack : StackView = c.args.stack.now in
    let places : List DirPlace = c.args.self.now.places.items in
    let tops : List Top = c.deref-top-items.result.now in
    let each : All IsLayer stack.layers = subst (λ (s : StackView). All IsLayer s.layers) c.stack.view_is c.stack.invariant.2 in
    let are = tops-lent stack c.deref.result.now places tops c.in_ok-tops.tops.items c.deref.ensures.value c.deref-top-items.ensures.value c.in_ok-tops.ensures in
    let all : take c.loop-top.top-index tops ≡ tops = take_all c.loop-top.top-index tops c.loop-top-test.false in
    subst (λ (names : List PathName). AreKids (from_layer c.args.self.now.from stack) c.args.self.now.path names)
    (sym (c.loop-top.invariant ∙ (λ j. map (λ e. e.0) (looks_from_tops stack (c.requires.reached j) (tops_told (all j))))))
    (looks-of-tops stack each c.args.self.now.from c.args.self.now.path (tops_told tops) (subst (λ (ps : List ReachedDirectory). AreTops stack.layers 0 ps (tops_told tops)) c.requires.reached are)).names
