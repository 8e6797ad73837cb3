use Rattle.std.proofs.Common.{◌≡◌, ◌+◌, ◌∙◌, ◌∷◌, ℕ, sym, ap, arith, length, length-append}
use Rattle.std.specs.Prelude.{nat_le, nat_lt}
use Rattle.ovl_names.specs.Names.{slash}
use Rattle.ovl_names.specs.Paths.{PathNames, child_path, text_limit}
use Rattle.ovl_layer.specs.TextPaths.{slashed}
use Rattle.ovl_layer.proofs.EntryLemmas.{limits}
use Rattle.ovl_layer.proofs.SheetLemmas.{length-child}
use Rattle.ovl_layer.proofs.WayLemmas.{slashed-child}
use Rattle.ovl_rewrite.proofs.RoomLemmas.{too-deep, room-left}
use Rattle.ovl_rewrite.proofs.rooms.NameRoom.under.Goals as goal

pub returns-then-len-ge-DEPTH_LIMIT : goal.returns-then-len-ge-DEPTH_LIMIT
returns-then-len-ge-DEPTH_LIMIT c name is =
    too-deep c.args.directory.now name (omega (arith, c.len.ensures, c.if-len-ge-DEPTH_LIMIT.true))

pub returns : goal.returns
returns c name is =
    let directory : PathNames = c.args.directory.now in
    let bytes : ℕ = c.slashed_len.result in
    let whole : length (slashed (child_path directory name)) ≡ bytes + 1 + length name =
    omega (arith, c.slashed_len.ensures.value, ap length (slashed-child directory name), length-append (slashed directory) (slash ∷ name)) in
    sym (limits (child_path directory name) (omega (arith, length-child directory name, c.len.ensures, c.if-len-ge-DEPTH_LIMIT.false)))
    ∙ (ap (λ (n : ℕ). nat_le n text_limit) whole
    ∙ (room-left bytes (length name) text_limit ∙ ap (nat_lt (length name)) (sym c.saturating_sub.ensures)))
