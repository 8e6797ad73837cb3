use Rattle.std.proofs.Common.{◌≡◌, ◌∙◌, ◌*◌, ap, arith, get_or, string_bytes, sym, take}
use Rattle.std.specs.Fork.{slice_chunk}
use Rattle.std.specs.List.{flat_map}
use Rattle.ovl_lookup.specs.Stacks.{StackView}
use Rattle.ovl_reports.specs.Listings.{IsTreeOf, merged_tree}
use Rattle.ovl_reports.specs.Reports.{show_line}
use Rattle.ovl_reports.proofs.ListingLemmas.{views_of}
use Rattle.ovl_reports.proofs.ShareLemmas.{if_given, shares_told}
use Rattle.ovl_reports.proofs.listings.parts_by.Goals as goal

pub returns : goal.returns
returns g c stack tree whole joined =
    let parts = c.in_ok-parts.parts in
    let share = c.args.share in
    shares_told show_line (merged_tree stack) share string_bytes parts.items whole joined
    (λ n d inside.
    if_given (λ (stack : StackView). IsTreeOf stack c.args.root.now (views_of c.args.parcels.now)) (λ stack text. string_bytes text ≡ flat_map show_line (slice_chunk (merged_tree stack) share n))
    (get_or parts.items n d) (c.in_ok-parts.ensures.each n d (omega (arith, inside, parts.ok.0, c.in_ok-parts.ensures.len))).1.met stack tree)
    ∙ ap (λ n. flat_map show_line (take (n * share) (merged_tree stack))) (sym parts.ok.0 ∙ c.in_ok-parts.ensures.len)
