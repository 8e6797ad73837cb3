use denote.Ref.{Bor}
use Rattle.std.proofs.Common.{◌≡◌, ◌∙◌, None, Option, List, IfOk, sym, ap, subst}
use Rattle.std.specs.Option.{option_map}
use Rattle.ovl_names.specs.Paths.{PathNames}
use Rattle.ovl_inode.specs.declared.inodes.Inode.{Inode}
use Rattle.ovl_layer.specs.Layers.{Entries}
use Rattle.ovl_lookup.specs.Trace.{things_found}
use Rattle.ovl_lookup.specs.Merged.{place_told}
use Rattle.ovl_lookup.specs.Hits.{found_of, past_metacopies}
use Rattle.ovl_lookup.proofs.FoundLemmas.{past_place, told-past}
use Rattle.ovl_lookup.proofs.stacks.Stack.data_place.Goals as goal

pub returns-in-Some : goal.returns-in-Some
returns-in-Some c =
    let layers : List Entries = c.args.self.now.layers in
    let told : Option PathNames = option_map (λ told. told.now) c.in_ok-found.told in
    let found : found_of c.args.self.now c.in_ok-first.first ≡ things_found layers c.args.path.now = c.in_ok-first.ensures.found ∙ ap (things_found layers) (c.in_ok-rope.ensures ∙ c.names.ensures.value) in
    sym (ap (λ (end : Option (Bor Inode)). past_place (option_map (λ inode. inode.now) end, told)) c.in-Some.is)
    ∙ (ap past_place c.in_ok-found.ensures
    ∙ (ap (λ (things : List Inode). past_place (past_metacopies None things)) found ∙ told-past (things_found layers c.args.path.now)))

pub returns-in-None : goal.returns-in-None
returns-in-None c =
    let layers : List Entries = c.args.self.now.layers in
    let told : Option PathNames = option_map (λ told. told.now) c.in_ok-found.told in
    let found : found_of c.args.self.now c.in_ok-first.first ≡ things_found layers c.args.path.now = c.in_ok-first.ensures.found ∙ ap (things_found layers) (c.in_ok-rope.ensures ∙ c.names.ensures.value) in
    let same : told ≡ place_told (things_found layers c.args.path.now) =
    sym (ap (λ (end : Option (Bor Inode)). past_place (option_map (λ inode. inode.now) end, told)) c.in-None.is)
    ∙ (ap past_place c.in_ok-found.ensures
    ∙ (ap (λ (things : List Inode). past_place (past_metacopies None things)) found ∙ told-past (things_found layers c.args.path.now))) in
    subst (λ (wanted : Option PathNames). IfOk c.copied.result (λ copy. copy ≡ wanted)) same c.copied.ensures
