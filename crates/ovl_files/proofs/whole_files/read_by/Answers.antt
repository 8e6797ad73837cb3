use Rattle.std.proofs.Common.{◌≡◌, ◌∙◌, ◌≤◌, ◌*◌, All, Contains, ap, arith, length, length-append, map, string_bytes, sym, take, vec_len}
use Rattle.std.proofs.lemmas.Iterator.Adapters.{YieldsList-from_vec}
use Rattle.std.proofs.lemmas.Iterator.Consumers.{YieldsList-turn}
use Rattle.std.proofs.lemmas.List.Elements.{All-append}
use Rattle.std.proofs.lemmas.Result.{err_from_is_err_and}
use Rattle.ovl_files.proofs.Shares.{one_more, within_share}
use Rattle.ovl_files.proofs.Unread.{unread_in}
use Rattle.ovl_files.proofs.whole_files.read_by.Goals as goal

pub returns-in_err-read-clause-fault : goal.returns-in_err-read-clause-fault
returns-in_err-read-clause-fault g c =
    let reads = c.in_ok-read-items.read-items in
    let gives = c.into_iter-read-iterator.ensures.into_iter_gives in
    let turn = YieldsList-turn (YieldsList-from_vec {s = c.into_iter-read-iterator.result} reads.items gives.0 (gives.1 ∙ reads.ok.0)) c.loop-read.yielded c.loop-read.read-iterator c.loop-read.yielded_by c.next.result c.next.new.self c.in-Some.read c.in-Some.is c.next.ensures.steps in
    let share = (c.in_ok-read-items.ensures.each (length c.loop-read.yielded) c.in-Some.read turn.0).1 in
    let out = err_from_is_err_and c.from_residual-in_err-read.result c.from_residual-in_err-read.ensures.1 in
    rw (out.1, out.2) (unread_in (Contains (map string_bytes share.argument.now)) (Contains (map string_bytes c.args.paths.now)) (within_share string_bytes c.args.paths.now _ _ share.argument.now share.argument_is.value)
    _ share.call.1.1 c.in_err-read.field-0.0 (sym turn.1 ∙ c.in_err-read.was))

pub loop-read-preserved : goal.loop-read-preserved
loop-read-preserved g c =
    let reads = c.in_ok-read-items.read-items in
    let gives = c.into_iter-read-iterator.ensures.into_iter_gives in
    let turn = YieldsList-turn (YieldsList-from_vec {s = c.into_iter-read-iterator.result} reads.items gives.0 (gives.1 ∙ reads.ok.0)) c.loop-read.yielded c.loop-read.read-iterator c.loop-read.yielded_by c.next.result c.next.new.self c.in-Some.read c.in-Some.is c.next.ensures.steps in
    let share = (c.in_ok-read-items.ensures.each (length c.loop-read.yielded) c.in-Some.read turn.0).1 in
    let is = sym turn.1 ∙ c.in_ok-read.was in
    let each : vec_len c.in_ok-read.field-0 ≡ length share.argument.now = rw is at share.call.0 in
    let within : All (λ bytes. vec_len bytes ≤ 268435456) c.in_ok-read.field-0.items = rw is at share.call.1.0 in
    let more = ap length (one_more c.args.paths.now c.share_of-size.result c.loop-read.yielded c.in-Some.read share.argument.now share.argument_is.value) in (
      omega (arith, c.in_ok-append.ensures.len, c.loop-read.invariant.0, each, more, length-append (take (length c.loop-read.yielded * c.share_of-size.result) c.args.paths.now) share.argument.now),
      rw c.in_ok-append.ensures.items (All-append (λ bytes. vec_len bytes ≤ 268435456) c.loop-read.files.items c.in_ok-read.field-0.items c.loop-read.invariant.1 within),
    )
