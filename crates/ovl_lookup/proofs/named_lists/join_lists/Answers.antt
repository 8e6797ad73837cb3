use Rattle.std.proofs.Common.{◌∙◌, inl, inr, ◌⊎◌, ◌≡◌, [], ◌++◌, List, map, sym, ap}
use Rattle.std.proofs.lemmas.List.{nil_from_length}
use Rattle.ovl_names.specs.Names.{name_cmp}
use Rattle.ovl_lookup.proofs.JoinLemmas.{all_joined, both_next, lower_next, upper_next}
use Rattle.ovl_lookup.proofs.named_lists.join_lists.Goals as goal
use Rattle.ovl_lookup.proofs.named_lists.join_lists.Goals.{in-Some+in_default-split_first, in_default}

pub loop-one-preserved-in-Less : goal.loop-one-preserved-in-Less
loop-one-preserved-in-Less g c =
    upper_next g.T.HasName.told g.T.HasName.joined_of c.args.upper.now c.args.lower.now c.loop-one.both.items c.loop-one.above.now c.loop-one.below.now c.loop-one.invariant c.in-Some.one.now c.in-Some-split_first.other.now c.in-Some.more.now c.in-Some-split_first.further.now c.in-Some.ensures.cases.0 c.in-Some-split_first.ensures.cases.0
    c.push.new.self.items c.in_ok-push-in-Less.ensures.items ((λ k. name_cmp (sym c.name.ensures k) (sym c.name-in-Some.ensures k)) ∙ sym c.in-Less.ensures)

pub loop-one-preserved-in-Equal : goal.loop-one-preserved-in-Equal
loop-one-preserved-in-Equal g c =
    both_next g.T.HasName.told g.T.HasName.joined_of c.args.upper.now c.args.lower.now c.loop-one.both.items c.loop-one.above.now c.loop-one.below.now c.loop-one.invariant c.in-Some.one.now c.in-Some-split_first.other.now c.in-Some.more.now c.in-Some-split_first.further.now c.in-Some.ensures.cases.0 c.in-Some-split_first.ensures.cases.0
    c.push-in-Equal.new.self.items c.joined.result c.in_ok-push-in-Equal.ensures.items c.joined.ensures ((λ k. name_cmp (sym c.name.ensures k) (sym c.name-in-Some.ensures k)) ∙ sym c.in-Equal.ensures)

pub loop-one-preserved : goal.loop-one-preserved
loop-one-preserved g c =
    lower_next g.T.HasName.told g.T.HasName.joined_of c.args.upper.now c.args.lower.now c.loop-one.both.items c.loop-one.above.now c.loop-one.below.now c.loop-one.invariant c.in-Some.one.now c.in-Some-split_first.other.now c.in-Some.more.now c.in-Some-split_first.further.now c.in-Some.ensures.cases.0 c.in-Some-split_first.ensures.cases.0
    c.push-in-Greater.new.self.items c.in_ok-push-in-Greater.ensures.items ((λ k. name_cmp (sym c.name.ensures k) (sym c.name-in-Some.ensures k)) ∙ sym c.in-Greater.ensures)

pub returns : goal.returns
returns g c =
    let above : List g.row.T.Denot = c.loop-one.above.now in
    let below : List g.row.T.Denot = c.loop-one.below.now in
    let ended : (above ≡ []) ⊎ (below ≡ []) =
    elim c.match-split_first.branch [
      | in-Some+in_default-split_first w ↦ inr (nil_from_length below w.in_default-split_first.ensures.cases)
      | in_default w ↦ inl (nil_from_length above w.in_default.ensures.cases)
    ] in
    let all = c.in_ok-extend_from_slice-2.ensures.items ∙ ap (λ (ts : List g.row.T.Denot). ts ++ below) c.in_ok-extend_from_slice.ensures.items in
    ap (map g.T.HasName.told) all ∙ all_joined g.T.HasName.told g.T.HasName.joined_of c.args.upper.now c.args.lower.now c.loop-one.both.items above below c.loop-one.invariant ended
