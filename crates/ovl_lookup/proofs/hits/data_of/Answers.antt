use denote.Ref.{Bor}
use Rattle.std.proofs.Common.{◌≡◌, ◌∙◌, Bool, true, false, cond, Option, Some, None, List, sym, ap}
use Rattle.std.specs.Option.{option_map}
use Rattle.ovl_names.specs.Paths.{PathNames}
use Rattle.ovl_inode.specs.declared.inodes.Inode.{Inode}
use Rattle.ovl_inode.specs.Marks.{is_data}
use Rattle.ovl_layer.specs.Layers.{Entries}
use Rattle.ovl_lookup.specs.Hits.{found_of}
use Rattle.ovl_lookup.proofs.FoundLemmas.{past_data, data-past}
use Rattle.ovl_lookup.proofs.hits.data_of.Goals as goal

pub returns-in_default : goal.returns-in_default
returns-in_default c =
    let data_only : List Entries = c.args.stack.now.data_only in
    let place : Option PathNames = option_map (λ told. told.now) c.args.place_told in
    let told : Option PathNames = option_map (λ told. told.now) c.in_ok-found.told in
    c.data_at.ensures
    ∙ sym (data-past data_only place (found_of c.args.stack.now c.args.first)
    ∙ (sym (ap (past_data data_only) c.in_ok-found.ensures)
    ∙ ap (λ (found : Option (Bor Inode)). past_data data_only (option_map (λ inode. inode.now) found, told)) c.in_default.is))

pub returns-then-not-is_data : goal.returns-then-not-is_data
returns-then-not-is_data c =
    let data_only : List Entries = c.args.stack.now.data_only in
    let place : Option PathNames = option_map (λ told. told.now) c.args.place_told in
    let told : Option PathNames = option_map (λ told. told.now) c.in_ok-found.told in
    let own : Inode = c.in-Some.inode.now in
    let bare : is_data own ≡ false = sym c.is_data.ensures ∙ c.if-not-is_data.true in
    sym (data-past data_only place (found_of c.args.stack.now c.args.first)
    ∙ (sym (ap (past_data data_only) c.in_ok-found.ensures)
    ∙ (ap (λ (found : Option (Bor Inode)). past_data data_only (option_map (λ inode. inode.now) found, told)) c.in-Some.is
    ∙ ap (λ (b : Bool). cond b (Some own) None) bare)))

pub returns : goal.returns
returns c =
    let data_only : List Entries = c.args.stack.now.data_only in
    let place : Option PathNames = option_map (λ told. told.now) c.args.place_told in
    let told : Option PathNames = option_map (λ told. told.now) c.in_ok-found.told in
    let own : Inode = c.in-Some.inode.now in
    let holds : is_data own ≡ true = sym c.is_data.ensures ∙ c.if-not-is_data.false in
    sym (data-past data_only place (found_of c.args.stack.now c.args.first)
    ∙ (sym (ap (past_data data_only) c.in_ok-found.ensures)
    ∙ (ap (λ (found : Option (Bor Inode)). past_data data_only (option_map (λ inode. inode.now) found, told)) c.in-Some.is
    ∙ ap (λ (b : Bool). cond b (Some own) None) holds)))
