-- Pieces that are pushed and taken, weighed step by step.
use Rattle.std.proofs.Common.{◌≡◌, ℕ, ◌+◌, ◌<◌, ◌≤◌, Option, Some, None, List, [], ◌∷◌, ◌++◌, length, get_or, set, All, refl, ap, arith, IsPermutation}
use Rattle.std.specs.List.{sum_by}
use Rattle.std.specs.Option.{option_or}
use Rattle.std.proofs.lemmas.List.Elements.{All-pop}
use Rattle.std.proofs.lemmas.List.Sums.{sum_by-cons, sum_by-append, sum_by_push, sum_by-set}
use Rattle.std.proofs.lemmas.List.Sorted.{sum_by-IsPermutation}
use Rattle.ovl_board.specs.declared.pieces.Piece.{Piece}
use Rattle.ovl_board.specs.declared.works.Parcel.{Parcel}
use Rattle.ovl_board.specs.Parcels.{pieces_of}
use Rattle.ovl_board.specs.Balance.{times, kids_in, IsBalanced}
use Rattle.ovl_board.specs.Assembly.{bare}
use Rattle.ovl_lanes.specs.declared.accounts.Account.{Account}
use Rattle.ovl_lanes.specs.declared.ends.Lane.{Lane}
use Rattle.ovl_lanes.specs.declared.ends.Pass.{Pass}
use Rattle.ovl_lanes.specs.Lanes.{account_of, stolen_by}
use Rattle.ovl_pool.specs.declared.worker_outputs.WorkerOutput.{WorkerOutput}
use Rattle.ovl_pool.specs.declared.workers.Worker.{Worker}
use Rattle.ovl_pool.specs.declared.workers.Other.{Other}
use Rattle.ovl_pool.specs.Flows.{lane_pushed, lane_taken, stolen, pushed, taken, all_pushed, all_taken, delivered, below, refused_weight, each_one, indicator, IsPushedOf, IsUntouched, IsTied, IsWithin, AreTied, AreWithin, AreCounted, HaveNothing, HaveGone, AreUntouched, AreSettled}
use Rattle.ovl_pool.specs.Passes.{HasNone}
use Rattle.ovl_pool.proofs.WorkerThreadLemmas.{IsApart}

-- pieces that all weigh 1 weigh their number
pub length_sum : (xs : List Piece) → sum_by each_one xs ≡ length xs
length_sum [] = refl
length_sum (x ∷ xs) = omega (arith, sum_by-cons each_one x xs, length_sum xs)

pub length_delivered : {O : Type 0} (parcels : List (Parcel O)) → delivered each_one parcels ≡ length parcels
length_delivered [] = refl
length_delivered {O} (c ∷ cs) = omega (arith, sum_by-cons (λ (parcel : Parcel O). each_one parcel.piece) c cs, length_delivered cs)

-- one of the passes steals none
pub stolen_none : (h : Piece → ℕ) (others : List Other) (i : ℕ) (a b : Other) → i < length others → a ≡ get_or others i a → stolen_by b.pass ≡ stolen_by a.pass → stolen h (set others i b) ≡ stolen h others
stolen_none h others i a b within is e =
    let f : Other → ℕ = λ o. sum_by h (stolen_by o.pass) in
    omega (arith, sum_by-set f others i b a within, ap f is, ap (sum_by h) e)

pub stolen_push : (h : Piece → ℕ) (others : List Other) (o : Other) → stolen h (others ++ o ∷ []) ≡ stolen h others + sum_by h (stolen_by o.pass)
stolen_push h others o = sum_by_push (λ (other : Other). sum_by h (stolen_by other.pass)) others o

-- a parcel is added
pub added_one : {O : Type 0} (parcels : List (Parcel O)) (c : Parcel O) (h : Piece → ℕ) → (delivered h (parcels ++ c ∷ []) ≡ delivered h parcels + h c.piece) × (below h (parcels ++ c ∷ []) ≡ below h parcels + sum_by h c.kids.items)
added_one {O} parcels c h = (sum_by_push (λ (parcel : Parcel O). h parcel.piece) parcels c, sum_by_push (λ (parcel : Parcel O). sum_by h parcel.kids.items) parcels c)

pub below_push : {O : Type 0} (xs ys : List (Parcel O)) (c : Parcel O) → ys ≡ xs ++ c ∷ [] → below each_one ys ≡ below each_one xs + length c.kids.items
below_push xs ys c e = omega (arith, ap (below each_one) e, (added_one xs c each_one).1, length_sum c.kids.items)

-- parcels in another order
pub same_parcels : {O : Type 0} (xs ys : List (Parcel O)) → IsPermutation xs ys → (h : Piece → ℕ) → (delivered h ys ≡ delivered h xs) × (below h ys ≡ below h xs)
same_parcels {O} xs ys same h = (sum_by-IsPermutation (λ (parcel : Parcel O). h parcel.piece) xs ys same, sum_by-IsPermutation (λ (parcel : Parcel O). sum_by h parcel.kids.items) xs ys same)

pub same_length : {O : Type 0} (xs ys : List (Parcel O)) → IsPermutation xs ys → length ys ≡ length xs
same_length xs ys same = omega (arith, (same_parcels xs ys same each_one).0, length_delivered xs, length_delivered ys)

pub parcels_joined : {O : Type 0} (xs ys zs : List (Parcel O)) → IsPermutation (xs ++ ys) zs → (h : Piece → ℕ) → (delivered h zs ≡ delivered h xs + delivered h ys) × (below h zs ≡ below h xs + below h ys)
parcels_joined {O} xs ys zs same h =
    let s = same_parcels (xs ++ ys) zs same h in
    (omega (arith, s.0, sum_by-append (λ (parcel : Parcel O). h parcel.piece) xs ys), omega (arith, s.1, sum_by-append (λ (parcel : Parcel O). sum_by h parcel.kids.items) xs ys))

-- one worker changes
pub all_set : (workers : List Worker) (i : ℕ) (w v : Worker) → i < length workers → w ≡ get_or workers i w → (h : Piece → ℕ)
    → (all_taken h (set workers i v) + taken h w ≡ all_taken h workers + taken h v) × (all_pushed h (set workers i v) + pushed h w ≡ all_pushed h workers + pushed h v)
all_set workers i w v within is h = (
  omega (arith, sum_by-set (taken h) workers i v w within, ap (taken h) is),
  omega (arith, sum_by-set (pushed h) workers i v w within, ap (pushed h) is),
)

-- two halves of the workers, each with its parcels
pub halves_tied : {O : Type 0} (all first second ended more : List Worker) (xs ys zs : List (Parcel O)) → all ≡ first ++ second → AreTied first ended xs → AreTied second more ys → IsPermutation (xs ++ ys) zs → AreTied all (ended ++ more) zs
halves_tied all first second ended more xs ys zs e a b same h =
    let p = parcels_joined xs ys zs same h in
    let at = a h in
    let bt = b h in (
      omega (arith, p.0, at.0, bt.0, sum_by-append (taken h) ended more, sum_by-append (taken h) first second, ap (all_taken h) e),
      omega (arith, p.1, at.1, bt.1, sum_by-append (pushed h) ended more, sum_by-append (pushed h) first second, ap (all_pushed h) e),
    )

-- the pieces of parcels and their kids as lists
pub delivered_pieces : {O : Type 0} (h : Piece → ℕ) (parcels : List (Parcel O)) → sum_by h (pieces_of (bare parcels)) ≡ delivered h parcels
delivered_pieces h [] = refl
delivered_pieces {O} h (c ∷ cs) = omega (arith, sum_by-cons h c.piece (pieces_of (bare cs)), sum_by-cons (λ (parcel : Parcel O). h parcel.piece) c cs, delivered_pieces h cs)

pub below_kids : {O : Type 0} (h : Piece → ℕ) (parcels : List (Parcel O)) → sum_by h (kids_in (bare parcels)) ≡ below h parcels
below_kids h [] = refl
below_kids {O} h (c ∷ cs) = omega (arith, sum_by-append h c.kids.items (kids_in (bare cs)), sum_by-cons (λ (parcel : Parcel O). sum_by h parcel.kids.items) c cs, below_kids h cs)

-- once the lanes are closed the parcels are in balance with what is left
pub gathered_balance : {O : Type 0} (root : Piece) (workers : List Worker) (parcels : List (Parcel O)) (left : List Piece) → HaveGone root workers parcels → AreSettled workers left → IsBalanced root (bare parcels) left
gathered_balance root workers parcels left gone settled p =
    let g = gone (indicator p) in
    omega (arith, g.0, g.1, settled p, sum_by-cons (indicator p) root (kids_in (bare parcels)), sum_by-append (indicator p) (pieces_of (bare parcels)) left, delivered_pieces (indicator p) parcels, below_kids (indicator p) parcels)

-- parcels in another order are in the same balance
pub same_balance : {O : Type 0} (root : Piece) (xs ys : List (Parcel O)) (left : List Piece) → IsPermutation xs ys → IsBalanced root (bare xs) left → IsBalanced root (bare ys) left
same_balance root xs ys left same balance p =
    let s = same_parcels xs ys same (indicator p) in
    omega (
      arith,
      s.0,
      s.1,
      balance p,
      sum_by-cons (indicator p) root (kids_in (bare xs)),
      sum_by-cons (indicator p) root (kids_in (bare ys)),
      sum_by-append (indicator p) (pieces_of (bare xs)) left,
      sum_by-append (indicator p) (pieces_of (bare ys)) left,
      delivered_pieces (indicator p) xs,
      delivered_pieces (indicator p) ys,
      below_kids (indicator p) xs,
      below_kids (indicator p) ys,
    )

-- one worker changes, and has taken and pushed as much as before
pub kept_set : (workers : List Worker) (i : ℕ) (w v : Worker) → i < length workers → w ≡ get_or workers i w → IsUntouched w v → AreUntouched workers (set workers i v)
kept_set workers i w v within is same h =
    let s = all_set workers i w v within is h in
    let k = same h in (omega (arith, s.0, k.0), omega (arith, s.1, k.1))

pub untouched_both : (first second third : List Worker) → AreUntouched first second → AreUntouched second third → AreUntouched first third
untouched_both first second third a b h = let x = a h in let y = b h in (omega (arith, x.0, y.0), omega (arith, x.1, y.1))

pub same_untouched : (w v : Worker) → v.lane ≡ w.lane → v.others.items ≡ w.others.items → IsUntouched w v
same_untouched w v lane others h = (omega (arith, ap (lane_taken h) lane, ap (stolen h) others), ap (lane_pushed h) lane)

-- a worker without passes whose lane is new is one of the workers
pub nothing_more : (workers : List Worker) (w : Worker) → HaveNothing workers → IsApart w → HaveNothing (workers ++ w ∷ [])
nothing_more workers w none split_seats h =
    let n = none h in
    let none_stolen : stolen h w.others.items ≡ 0 = ap (stolen h) split_seats.1 in
    let none_taken : lane_taken h w.lane ≡ 0 = ap (λ (v : Account). sum_by h v.taken) split_seats.0 in
    let none_pushed : lane_pushed h w.lane ≡ 0 = ap (λ (v : Account). sum_by h v.pushed) split_seats.0 in
    (omega (arith, n.0, none_stolen, none_taken, sum_by_push (taken h) workers w), omega (arith, n.1, none_pushed, sum_by_push (pushed h) workers w))

-- a pass is split off a worker's lane, and another worker takes it up
pub split_untouched : (w v : Worker) → account_of v.lane ≡ record (account_of w.lane) { split = (account_of w.lane).split + 1 } → v.others.items ≡ w.others.items → IsUntouched w v
split_untouched w v split others h = (
  omega (arith, ap (λ (a : Account). sum_by h a.taken) split, ap (stolen h) others),
  ap (λ (a : Account). sum_by h a.pushed) split,
)

pub taken_up_untouched : (w v : Worker) (other : Other) → v.lane ≡ w.lane → v.others.items ≡ w.others.items ++ other ∷ [] → stolen_by other.pass ≡ [] → IsUntouched w v
taken_up_untouched w v other lane others none h =
    let empty : sum_by h (stolen_by other.pass) ≡ 0 = ap (sum_by h) none in (
      omega (arith, ap (lane_taken h) lane, ap (stolen h) others, stolen_push h w.others.items other, empty),
      ap (lane_pushed h) lane,
    )

-- a worker lays a pass down, and it is joined to a worker's lane
pub laid_down : (h : Piece → ℕ) (w v : Worker) (other : Other) → v.lane ≡ w.lane → w.others.items ≡ v.others.items ++ other ∷ [] → (taken h w ≡ taken h v + sum_by h (stolen_by other.pass)) × (pushed h v ≡ pushed h w)
laid_down h w v other lane others = (
  omega (arith, ap (lane_taken h) lane, ap (stolen h) others, stolen_push h v.others.items other),
  ap (lane_pushed h) lane,
)

pub joined_back : (h : Piece → ℕ) (w v : Worker) (pass : Pass)
    → account_of v.lane ≡ record (account_of w.lane) { joined = (account_of w.lane).joined + 1; taken = (account_of w.lane).taken ++ stolen_by pass } → v.others.items ≡ w.others.items
    → (taken h v ≡ taken h w + sum_by h (stolen_by pass)) × (pushed h v ≡ pushed h w)
joined_back h w v pass account others = (
  omega (arith, ap (λ (a : Account). sum_by h a.taken) account, sum_by-append h (account_of w.lane).taken (stolen_by pass), ap (stolen h) others),
  ap (λ (a : Account). sum_by h a.pushed) account,
)

pub given_back : (workers : List Worker) (i j : ℕ) (w u x v : Worker) (other : Other) → i < length workers → w ≡ get_or workers i w → u.lane ≡ w.lane → w.others.items ≡ u.others.items ++ other ∷ []
    → j < length (set workers i u) → x ≡ get_or (set workers i u) j x
    → account_of v.lane ≡ record (account_of x.lane) { joined = (account_of x.lane).joined + 1; taken = (account_of x.lane).taken ++ stolen_by other.pass } → v.others.items ≡ x.others.items
    → AreUntouched workers (set (set workers i u) j v)
given_back workers i j w u x v other within is lane others within' is' account others' h =
    let a = all_set workers i w u within is h in
    let b = all_set (set workers i u) j x v within' is' h in
    let c = laid_down h w u other lane others in
    let d = joined_back h x v other.pass account others' in
    (omega (arith, a.0, b.0, c.0, d.0), omega (arith, a.1, b.1, c.1, d.1))

-- of workers that were closed so far the pieces left are known, and of the rest what was pushed and taken
pub settled_more : (all rest : List Worker) (w : Worker) (left more : List Piece) → w.others.items ≡ []
    → ((p : Piece) → all_pushed (indicator p) all + all_taken (indicator p) (rest ++ w ∷ []) ≡ all_taken (indicator p) all + all_pushed (indicator p) (rest ++ w ∷ []) + times p left)
    → ((p : Piece) → times p (account_of w.lane).pushed ≡ times p ((account_of w.lane).taken ++ more))
    → (p : Piece) → all_pushed (indicator p) all + all_taken (indicator p) rest ≡ all_taken (indicator p) all + all_pushed (indicator p) rest + times p (left ++ more)
settled_more all rest w left more none so_far closed p =
    let empty : stolen (indicator p) w.others.items ≡ 0 = ap (stolen (indicator p)) none in
    omega (arith, so_far p, closed p, empty, sum_by_push (taken (indicator p)) rest w, sum_by_push (pushed (indicator p)) rest w, sum_by-append (indicator p) (account_of w.lane).taken more, sum_by-append (indicator p) left more)

-- the numbers of a closed worker
pub counted_more : (rest : List Worker) (w : Worker) → w.others.items ≡ [] → (all_taken each_one (rest ++ w ∷ []) ≡ all_taken each_one rest + length (account_of w.lane).taken) × (all_pushed each_one (rest ++ w ∷ []) ≡ all_pushed each_one rest + length (account_of w.lane).pushed)
counted_more rest w none =
    let empty : stolen each_one w.others.items ≡ 0 = ap (stolen each_one) none in
    (omega (arith, empty, sum_by_push (taken each_one) rest w, length_sum (account_of w.lane).taken), omega (arith, sum_by_push (pushed each_one) rest w, length_sum (account_of w.lane).pushed))

-- numbers of parcels in another order, and of both halves' parcels
pub counted_permuted : {O : Type 0} (xs ys : List (Parcel O)) (known noted : ℕ) → IsPermutation xs ys → AreCounted known noted xs → AreCounted known noted ys
counted_permuted xs ys known noted same counted =
    let s = same_parcels xs ys same each_one in
    (omega (arith, s.1, counted.0), omega (arith, s.0, counted.1, length_delivered xs, length_delivered ys))

pub counted_both : {O : Type 0} (xs ys zs : List (Parcel O)) (known more noted beside all every : ℕ) → IsPermutation (xs ++ ys) zs → AreCounted known noted xs → AreCounted more beside ys → all ≡ known + more → every ≡ noted + beside → AreCounted all every zs
counted_both xs ys zs known more noted beside all every same a b k d =
    let s = parcels_joined xs ys zs same each_one in
    (omega (arith, s.1, a.0, b.0, k), omega (arith, s.0, a.1, b.1, d, length_delivered xs, length_delivered ys, length_delivered zs))

pub tied_permuted : {O : Type 0} (w v : Worker) (xs ys : List (Parcel O)) → IsPermutation xs ys → IsTied w v xs → IsTied w v ys
tied_permuted w v xs ys same tied h =
    let s = same_parcels xs ys same h in
    let t = tied h in (omega (arith, s.0, t.0), omega (arith, s.1, t.1))

-- one worker is the last of several
pub last_tied : {O : Type 0} (rest : List Worker) (w v : Worker) (xs : List (Parcel O)) → IsTied w v xs → AreTied (rest ++ w ∷ []) (rest ++ v ∷ []) xs
last_tied rest w v xs tied h =
    let t = tied h in
    (omega (arith, t.0, sum_by_push (taken h) rest w, sum_by_push (taken h) rest v), omega (arith, t.1, sum_by_push (pushed h) rest w, sum_by_push (pushed h) rest v))

-- as many kids were noted as were to be pushed
pub noted_before : (old new : Lane) (pieces kids : List Piece) (count before after : ℕ) → IsPushedOf old new pieces → pieces ≡ kids → count ≡ length kids → after ≡ before + count
    → lane_pushed each_one new + before ≤ lane_pushed each_one old + after
noted_before old new pieces kids count before after push same many noted = omega (arith, (push each_one).0, ap (sum_by each_one) same, length_sum kids, many, noted)

-- parcels in another order, one worker of several, and both halves
pub within_permuted : {O : Type 0} (w v : Worker) (a b : WorkerOutput O) → IsPermutation a.parcels.items b.parcels.items → b.refused ≡ a.refused → IsWithin w v a → IsWithin w v b
within_permuted w v a b same refused within h =
    let s = same_parcels a.parcels.items b.parcels.items same h in
    let t = within h in (omega (arith, s.0, t.0, ap (refused_weight h) refused), omega (arith, s.1, t.1))

pub last_within : {O : Type 0} (rest : List Worker) (w v : Worker) (a : WorkerOutput O) → IsWithin w v a → AreWithin (rest ++ w ∷ []) (rest ++ v ∷ []) a
last_within rest w v a within h =
    let t = within h in
    (omega (arith, t.0, sum_by_push (taken h) rest w, sum_by_push (taken h) rest v), omega (arith, t.1, sum_by_push (pushed h) rest w, sum_by_push (pushed h) rest v))

pub last_foreknown : (rest : List Worker) (w v : Worker) (known : ℕ) → pushed each_one v ≤ pushed each_one w + known → all_pushed each_one (rest ++ v ∷ []) ≤ all_pushed each_one (rest ++ w ∷ []) + known
last_foreknown rest w v known few = omega (arith, few, sum_by_push (pushed each_one) rest w, sum_by_push (pushed each_one) rest v)

refused_least : (h : Piece → ℕ) (o p : Option Piece) → refused_weight h (option_or o p) ≤ refused_weight h o + refused_weight h p
refused_least h None p = omega arith
refused_least h (Some x) p = omega arith

pub halves_within : {O : Type 0} (all first second ended more : List Worker) (a b both : WorkerOutput O) → all ≡ first ++ second → AreWithin first ended a → AreWithin second more b
    → IsPermutation (a.parcels.items ++ b.parcels.items) both.parcels.items → both.refused ≡ option_or a.refused b.refused → AreWithin all (ended ++ more) both
halves_within all first second ended more a b both e left right same refused h =
    let p = parcels_joined a.parcels.items b.parcels.items both.parcels.items same h in
    let l = left h in
    let r = right h in (
      omega (arith, p.0, l.0, r.0, ap (refused_weight h) refused, refused_least h a.refused b.refused, sum_by-append (taken h) ended more, sum_by-append (taken h) first second, ap (all_taken h) e),
      omega (arith, p.1, l.1, r.1, sum_by-append (pushed h) ended more, sum_by-append (pushed h) first second, ap (all_pushed h) e),
    )

pub halves_foreknown : (all first second ended more : List Worker) (known beside every : ℕ) → all ≡ first ++ second → all_pushed each_one ended ≤ all_pushed each_one first + known → all_pushed each_one more ≤ all_pushed each_one second + beside
    → every ≡ known + beside → all_pushed each_one (ended ++ more) ≤ all_pushed each_one all + every
halves_foreknown all first second ended more known beside every e left right sum =
    omega (arith, left, right, sum, sum_by-append (pushed each_one) ended more, sum_by-append (pushed each_one) first second, ap (all_pushed each_one) e)

-- the next worker is closed
pub closed_numbers : (ws rest all : List Worker) (w : Worker) (pushed_all taken_now taken_so_far left_so_far left_now : ℕ) → ws ≡ rest ++ w ∷ [] → All HasNone ws
    → length (account_of w.lane).pushed ≡ pushed_all → length (account_of w.lane).taken ≡ taken_now → pushed_all ≡ taken_now + left_now
    → taken_so_far + all_taken each_one ws ≡ all_taken each_one all → taken_so_far + left_so_far + all_pushed each_one ws ≡ all_pushed each_one all
    → (taken_so_far + taken_now + all_taken each_one rest ≡ all_taken each_one all) × (taken_so_far + taken_now + (left_so_far + left_now) + all_pushed each_one rest ≡ all_pushed each_one all)
closed_numbers ws rest all w pushed_all taken_now taken_so_far left_so_far left_now items none p t whole counted numbers =
    let more = counted_more rest w (All-pop HasNone ws rest (Some w) items none).1 in (
      omega (arith, more.0, ap (all_taken each_one) items, counted, t),
      omega (arith, more.1, ap (all_pushed each_one) items, numbers, p, t, whole),
    )
