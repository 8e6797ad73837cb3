use Rattle.std.proofs.Common.{◌∙◌, true, false, sym, ap, subst}
use Rattle.ovl_names.specs.Paths.{child_path}
use Rattle.ovl_merge.specs.Places.{merge_of, reach}
use Rattle.ovl_merge.specs.Reckoned.{next_lookup_at}
use Rattle.ovl_merge.specs.NamesInBoth.{IsPlaced, place_from, rest_from}
use Rattle.ovl_merge.proofs.VisitLemmas.{not-some}
use Rattle.ovl_merge.proofs.NameInBothLemmas.{reach-shut, reach-told, placed-some}
use Rattle.ovl_merge.proofs.names_in_both.NameInBoth.reach.Goals as goal

pub returns-in_default-clause-reach : goal.returns-in_default-clause-reach
returns-in_default-clause-reach c =
    let m = merge_of c.args.stack.now in
    let above = c.args.above.now in
    let name_in_both = c.args.self.now in
    sym (reach-shut m (child_path above.path name_in_both.name.now) (next_lookup_at above.lower) name_in_both c.requires.first.name_in_both (ap (rest_from (next_lookup_at above.lower)) (not-some name_in_both.lower.rest c.in_default.not-Some)))

pub returns-then-branch : goal.returns-then-branch
returns-then-branch c =
    let m = merge_of c.args.stack.now in
    let above = c.args.above.now in
    let name_in_both = c.args.self.now in
    record {
      reach =
          reach-told m (child_path above.path name_in_both.name.now) (next_lookup_at above.lower) name_in_both c.requires.first.name_in_both c.args.found.now.inode.now c.requires.first.first
          (place_from (next_lookup_at above.lower) c.in-Some.place) (ap (rest_from (next_lookup_at above.lower)) c.in-Some.is) true
          (λ own e. sym c.if-branch.true ∙ c.in_ok-goes_on.ensures own e);
      goes = λ none.
          placed-some (place_from (next_lookup_at above.lower) c.in-Some.place) (reach m (child_path above.path name_in_both.name.now))
          (subst (IsPlaced (next_lookup_at above.lower)) c.in-Some.is c.requires.first.name_in_both.lower.placed)
          (reach-told m (child_path above.path name_in_both.name.now) (next_lookup_at above.lower) name_in_both c.requires.first.name_in_both c.args.found.now.inode.now c.requires.first.first
          (place_from (next_lookup_at above.lower) c.in-Some.place) (ap (rest_from (next_lookup_at above.lower)) c.in-Some.is) true
          (λ own e. sym c.if-branch.true ∙ c.in_ok-goes_on.ensures own e)) none;
    }

pub returns-clause-reach : goal.returns-clause-reach
returns-clause-reach c =
    let m = merge_of c.args.stack.now in
    let above = c.args.above.now in
    let name_in_both = c.args.self.now in
    reach-told m (child_path above.path name_in_both.name.now) (next_lookup_at above.lower) name_in_both c.requires.first.name_in_both c.args.found.now.inode.now c.requires.first.first
    (place_from (next_lookup_at above.lower) c.in-Some.place) (ap (rest_from (next_lookup_at above.lower)) c.in-Some.is) false
    (λ own e. sym c.if-branch.false ∙ c.in_ok-goes_on.ensures own e)
