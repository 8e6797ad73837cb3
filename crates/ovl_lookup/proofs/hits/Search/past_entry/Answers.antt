use Rattle.std.proofs.Common.{drop, sym}
use Rattle.ovl_lookup.specs.Trace.{things_found}
use Rattle.ovl_lookup.specs.Views.{found_below}
use Rattle.ovl_lookup.specs.DirViews.{places_in}
use Rattle.ovl_lookup.proofs.DirViewLemmas.{on-path, on-name, on-none}
use Rattle.ovl_lookup.proofs.hits.Search.past_entry.Goals as goal

pub returns-in-At : goal.returns-in-At
returns-in-At c = record {
  found = λ stack. sym (on-path c.args.name.now (things_found (drop c.args.from stack.layers)) (λ other. found_below stack.layers other (places_in stack c.args.places.now)) c.args.mark.now c.in-At.origin.now (sym c.in-At.ensures.at));
  over = λ stack all. tt;
}

pub returns-in-Beside : goal.returns-in-Beside
returns-in-Beside c = record {
  found = λ stack. sym (on-name c.args.name.now (things_found (drop c.args.from stack.layers)) (λ other. found_below stack.layers other (places_in stack c.args.places.now)) c.args.mark.now c.in-Beside.other.now (sym c.in-Beside.ensures.by));
  over = λ stack all. all;
}

pub returns-in-Nowhere : goal.returns-in-Nowhere
returns-in-Nowhere c = record {
  found = λ stack. sym (on-none c.args.name.now (things_found (drop c.args.from stack.layers)) (λ other. found_below stack.layers other (places_in stack c.args.places.now)) c.args.mark.now (sym c.in-Nowhere.ensures.at) (sym c.in-Nowhere.ensures.by));
  over = λ stack all. tt;
}
