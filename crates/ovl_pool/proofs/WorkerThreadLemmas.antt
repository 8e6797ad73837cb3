-- Passes and lanes of workers, one of which changes.
use Rattle.std.proofs.Common.{◌≡◌, ◌==◌, cond, Bool, true, false, Some, ℕ, ◌+◌, ◌<◌, List, [], ◌∷◌, ◌++◌, length, get_or, set, map, All, refl, sym, ap, ◌∙◌, subst, ⊎_elim, arith}
use Rattle.std.specs.List.{AllWithin}
use Rattle.std.proofs.lemmas.Bool.{cases_eq, cases_Bool, eqb-true, eq-eqb}
use Rattle.std.proofs.lemmas.List.{length-set, length-map, get_or-set_same, get_or-set_other, get_or-map, map-set, map-append}
use Rattle.std.proofs.lemmas.List.Elements.{All-set, All-push, All-pop, All-nil, All-cons, All-head, All-tail}
use Rattle.std.proofs.lemmas.List.Sums.{sum_by-set, sum_by-append, sum_by-cons}
use Rattle.std.proofs.Math.Seq.{map-set_same}
use Rattle.ovl_lanes.specs.declared.ends.Thief.{Thief}
use Rattle.ovl_lanes.specs.declared.accounts.Account.{Account}
use Rattle.ovl_lanes.specs.Accounts.{owned}
use Rattle.ovl_lanes.specs.Lanes.{LaneId, lane_id, thief_id, account_of, IsPass, IsOfLane, IsWhole}
use Rattle.ovl_pool.specs.declared.workers.Worker.{Worker}
use Rattle.ovl_pool.specs.declared.workers.Other.{Other}
use Rattle.ovl_pool.specs.Passes.{IsOther, HasPasses, Post, names_of, post_of, times_named, held_of, AreOutBut, AreSeated, HasNone}

-- a worker without passes, whose lane is new
abbrev pub IsApart : Worker → Type 0
IsApart worker = (account_of worker.lane ≡ owned 0 0 [] []) × HasNone worker

-- seated but for loose passes, which no worker holds
abbrev pub AreSeatedBut : List ℕ → List Thief → List Worker → Type 0
AreSeatedBut loose thieves workers = All (HasPasses thieves) workers × ((map (λ (post : Post). post.ends.id) (map post_of workers) ≡ map thief_id thieves) × AreOutBut loose (map post_of workers))

abbrev one_where : Bool → ℕ
one_where b = cond b 1 0

named_itself : (lane : ℕ) → times_named lane (lane ∷ []) ≡ 1
named_itself lane = omega (arith, sum_by-cons (λ (n : ℕ). one_where (n == lane)) lane [], ap one_where (eq-eqb lane lane refl))

named_apart : (lane i : ℕ) → (lane ≡ i → ⊥) → times_named lane (i ∷ []) ≡ 0
named_apart lane i n = ⊎_elim (λ (t : (i == lane) ≡ true). absurd (n (sym (eqb-true i lane t)))) (λ (f : (i == lane) ≡ false). omega (arith, sum_by-cons (λ (m : ℕ). one_where (m == lane)) i [], ap one_where f)) (cases_Bool (i == lane))

out_set : (loose more : List ℕ) (posts : List Post) (i : ℕ) (p q : Post) → i < length posts → ((d : Post) → get_or posts i d ≡ p) → AreOutBut loose posts
    → ((lane : ℕ) → (lane ≡ i → ⊥) → times_named lane q.named + times_named lane more ≡ times_named lane p.named + times_named lane loose)
    → q.ends.split + p.ends.joined + times_named i p.named + times_named i loose ≡ p.ends.split + q.ends.joined + times_named i q.named + times_named i more
    → AreOutBut more (set posts i q)
out_set loose more posts i p q within at out split_seats here lane d below =
    ⊎_elim
    (λ (e : lane ≡ i).
    let r : get_or (set posts i q) i d ≡ q = get_or-set_same posts i q d within in
    let h = sum_by-set (λ (post : Post). times_named i post.named) posts i q d within in
    let o = out i d within in
    subst
    (λ n. (get_or (set posts i q) n d).ends.split ≡ (get_or (set posts i q) n d).ends.joined + held_of n (set posts i q) + times_named n more)
    (sym e)
    (omega (arith, ap (λ (post : Post). post.ends.split) r, ap (λ (post : Post). post.ends.joined) r, ap (λ (post : Post). post.ends.split) (at d), ap (λ (post : Post). post.ends.joined) (at d), ap (λ (post : Post). times_named i post.named) (at d))))
    (λ (n : lane ≡ i → ⊥).
    let r : get_or (set posts i q) lane d ≡ get_or posts lane d = get_or-set_other posts i lane q d n in
    let h = sum_by-set (λ (post : Post). times_named lane post.named) posts i q d within in
    let o = out lane d (omega (arith, below, length-set posts i q)) in
    omega (arith, split_seats lane n, ap (λ (post : Post). post.ends.split) r, ap (λ (post : Post). post.ends.joined) r, ap (λ (post : Post). times_named lane post.named) (at d)))
    (cases_eq lane i)

post_at : (workers : List Worker) (i : ℕ) (w : Worker) → i < length workers → w ≡ get_or workers i w → (d : Post) → get_or (map post_of workers) i d ≡ post_of w
post_at workers i w within is d = get_or-map post_of workers i w d within ∙ ap post_of (sym is)

-- one worker changes
seat_set : (loose more : List ℕ) (thieves : List Thief) (workers : List Worker) (i : ℕ) (w v : Worker) → i < length workers → w ≡ get_or workers i w → AreSeatedBut loose thieves workers → HasPasses thieves v → lane_id v.lane ≡ lane_id w.lane
    → ((lane : ℕ) → (lane ≡ i → ⊥) → times_named lane (names_of v.others.items) + times_named lane more ≡ times_named lane (names_of w.others.items) + times_named lane loose)
    → (account_of v.lane).split + (account_of w.lane).joined + times_named i (names_of w.others.items) + times_named i loose ≡ (account_of w.lane).split + (account_of v.lane).joined + times_named i (names_of v.others.items) + times_named i more
    → AreSeatedBut more thieves (set workers i v)
seat_set loose more thieves workers i w v within is s passes same split_seats here =
    let id : Post → LaneId = λ post. post.ends.id in
    let m = map-set post_of workers i v in
    let at = post_at workers i w within is in (
      All-set (HasPasses thieves) workers i v passes s.0,
      (
        ap (map id) m ∙ map-set_same id (map post_of workers) i (post_of v) (post_of w) (same ∙ sym (ap id (at (post_of w)))) ∙ s.1.0,
        subst (AreOutBut more) (sym m) (out_set loose more (map post_of workers) i (post_of w) (post_of v) (omega (arith, within, length-map workers post_of)) at s.1.1 split_seats here),
      ),
    )

as_many_but : (loose : List ℕ) (thieves : List Thief) (workers : List Worker) → AreSeatedBut loose thieves workers → length workers ≡ length thieves
as_many_but loose thieves workers s = omega (arith, ap length s.1.0, length-map thieves thief_id, length-map (map post_of workers) (λ (post : Post). post.ends.id), length-map workers post_of)

pub as_many : (thieves : List Thief) (workers : List Worker) → AreSeated thieves workers → length workers ≡ length thieves
as_many thieves workers s = as_many_but [] thieves workers s

-- the thief at each place is that of the worker's lane there
thief_at : (loose : List ℕ) (thieves : List Thief) (workers : List Worker) (i : ℕ) (w : Worker) (d : Thief) → i < length workers → w ≡ get_or workers i w → AreSeatedBut loose thieves workers → (i < length thieves) × (thief_id (get_or thieves i d) ≡ lane_id w.lane)
thief_at loose thieves workers i w d within is s =
    let id : Post → LaneId = λ post. post.ends.id in
    let below : i < length thieves = omega (arith, within, as_many_but loose thieves workers s) in (
      below,
      sym (get_or-map thief_id thieves i d (lane_id w.lane) below) ∙ ap (λ ids. get_or ids i (lane_id w.lane)) (sym s.1.0) ∙ get_or-map id (map post_of workers) i (post_of w) (lane_id w.lane) (omega (arith, within, length-map workers post_of)) ∙ ap id (post_at workers i w within is (post_of w)),
    )

passes_at : (thieves : List Thief) (workers : List Worker) (i : ℕ) (w : Worker) → i < length workers → w ≡ get_or workers i w → All (HasPasses thieves) workers → HasPasses thieves w
passes_at thieves workers i w within is all = subst (HasPasses thieves) (sym is) (all i w within)

-- a pass is split off, and is loose
pub split_off : (thieves : List Thief) (workers : List Worker) (i : ℕ) (w v : Worker) → i < length workers → w ≡ get_or workers i w → AreSeated thieves workers → v.others.items ≡ w.others.items → lane_id v.lane ≡ lane_id w.lane
    → (account_of v.lane).split ≡ (account_of w.lane).split + 1 → (account_of v.lane).joined ≡ (account_of w.lane).joined → AreSeatedBut (i ∷ []) thieves (set workers i v)
split_off thieves workers i w v within is s others same split joined =
    let n = λ (lane : ℕ). ap (λ os. times_named lane (names_of os)) others in
    seat_set [] (i ∷ []) thieves workers i w v within is s (subst (All (IsOther thieves)) (sym others) (passes_at thieves workers i w within is s.0)) same
    (λ lane split_seats. omega (arith, n lane, named_apart lane i split_seats))
    (omega (arith, n i, named_itself i, split, joined))

-- a loose pass is joined
pub join_back : (thieves : List Thief) (workers : List Worker) (i : ℕ) (w v : Worker) → i < length workers → w ≡ get_or workers i w → AreSeatedBut (i ∷ []) thieves workers → v.others.items ≡ w.others.items → lane_id v.lane ≡ lane_id w.lane
    → (account_of v.lane).split ≡ (account_of w.lane).split → (account_of v.lane).joined ≡ (account_of w.lane).joined + 1 → AreSeated thieves (set workers i v)
join_back thieves workers i w v within is s others same split joined =
    let n = λ (lane : ℕ). ap (λ os. times_named lane (names_of os)) others in
    seat_set (i ∷ []) [] thieves workers i w v within is s (subst (All (IsOther thieves)) (sym others) (passes_at thieves workers i w within is s.0)) same
    (λ lane split_seats. omega (arith, n lane, named_apart lane i split_seats))
    (omega (arith, n i, named_itself i, split, joined))

named_snoc : (lane : ℕ) (others : List Other) (other : Other) → times_named lane (names_of (others ++ other ∷ [])) ≡ times_named lane (names_of others) + times_named lane (other.lane ∷ [])
named_snoc lane others other = ap (times_named lane) (map-append (λ (o : Other). o.lane) others (other ∷ [])) ∙ sum_by-append (λ n. cond (n == lane) 1 0) (names_of others) (other.lane ∷ [])

-- a worker takes a loose pass
pub take_up : (thieves : List Thief) (workers : List Worker) (i : ℕ) (w v : Worker) (other : Other) → i < length workers → w ≡ get_or workers i w → AreSeatedBut (other.lane ∷ []) thieves workers → IsOther thieves other → v.lane ≡ w.lane → v.others.items ≡ w.others.items ++ other ∷ []
    → AreSeated thieves (set workers i v)
take_up thieves workers i w v other within is s pass same others =
    let n = λ (lane : ℕ). ap (λ os. times_named lane (names_of os)) others ∙ named_snoc lane w.others.items other in
    seat_set (other.lane ∷ []) [] thieves workers i w v within is s (subst (All (IsOther thieves)) (sym others) (All-push (IsOther thieves) w.others.items other (passes_at thieves workers i w within is s.0) pass)) (ap lane_id same)
    (λ lane split_seats. omega (arith, n lane))
    (omega (arith, n i, ap (λ l. (account_of l).split) same, ap (λ l. (account_of l).joined) same))

-- a worker lays a pass down, which is loose then
lay_down : (thieves : List Thief) (workers : List Worker) (i : ℕ) (w v : Worker) (other : Other) → i < length workers → w ≡ get_or workers i w → AreSeated thieves workers → v.lane ≡ w.lane → w.others.items ≡ v.others.items ++ other ∷ []
    → AreSeatedBut (other.lane ∷ []) thieves (set workers i v) × IsOther thieves other
lay_down thieves workers i w v other within is s same others =
    let n = λ (lane : ℕ). ap (λ os. times_named lane (names_of os)) others ∙ named_snoc lane v.others.items other in
    let all = All-pop (IsOther thieves) w.others.items v.others.items (Some other) others (passes_at thieves workers i w within is s.0) in (
      seat_set [] (other.lane ∷ []) thieves workers i w v within is s all.0 (ap lane_id same)
          (λ lane split_seats. omega (arith, n lane))
          (omega (arith, n i, ap (λ l. (account_of l).split) same, ap (λ l. (account_of l).joined) same)),
      all.1,
    )

-- a worker's lane changes, and its passes and the numbers of its lane don't
pub keep_post : (thieves : List Thief) (workers : List Worker) (i : ℕ) (w v : Worker) → i < length workers → w ≡ get_or workers i w → AreSeated thieves workers → v.others.items ≡ w.others.items → lane_id v.lane ≡ lane_id w.lane
    → (account_of v.lane).split ≡ (account_of w.lane).split → (account_of v.lane).joined ≡ (account_of w.lane).joined → AreSeated thieves (set workers i v)
keep_post thieves workers i w v within is s others same split joined =
    let n = λ (lane : ℕ). ap (λ os. times_named lane (names_of os)) others in
    seat_set [] [] thieves workers i w v within is s (subst (All (IsOther thieves)) (sym others) (passes_at thieves workers i w within is s.0)) same
    (λ lane split_seats. omega (arith, n lane))
    (omega (arith, n i, split, joined))

-- workers that hold no pass
none_held : (workers : List Worker) → All HasNone workers → (lane : ℕ) → held_of lane (map post_of workers) ≡ 0
none_held [] none lane = refl
none_held (w ∷ ws) none lane = omega (arith, sum_by-cons (λ (post : Post). times_named lane post.named) (post_of w) (map post_of ws), ap (λ os. times_named lane (names_of os)) (All-head HasNone w ws none), none_held ws (All-tail HasNone w ws none) lane)

ids_of : (workers : List Worker) → map (λ (post : Post). post.ends.id) (map post_of workers) ≡ map (λ (worker : Worker). lane_id worker.lane) workers
ids_of [] = refl
ids_of (w ∷ ws) = ap (λ ids. lane_id w.lane ∷ ids) (ids_of ws)

new_posts : (workers : List Worker) → All IsApart workers → All (λ (post : Post). (post.ends.split ≡ 0) × (post.ends.joined ≡ 0)) (map post_of workers)
new_posts [] split_seats = All-nil (λ (post : Post). (post.ends.split ≡ 0) × (post.ends.joined ≡ 0))
new_posts (w ∷ ws) split_seats =
    let a = (All-head IsApart w ws split_seats).0 in
    All-cons (λ (post : Post). (post.ends.split ≡ 0) × (post.ends.joined ≡ 0)) (post_of w) (map post_of ws) (ap (λ (v : Account). v.split) a, ap (λ (v : Account). v.joined) a) (new_posts ws (All-tail IsApart w ws split_seats))

pub apart_seated : (thieves : List Thief) (workers : List Worker) → All IsApart workers → map (λ (worker : Worker). lane_id worker.lane) workers ≡ map thief_id thieves → AreSeated thieves workers
apart_seated thieves workers split_seats same =
    let held = none_held workers (λ k d below. (split_seats k d below).1) in (
      (λ k d below. subst (All (IsOther thieves)) (sym (split_seats k d below).1) (All-nil (IsOther thieves))),
      (ids_of workers ∙ same, λ lane d below. let n = new_posts workers split_seats lane d below in omega (arith, n.0, n.1, held lane)),
    )

-- where no worker holds a pass, each lane is whole
pub whole_lanes : (thieves : List Thief) (workers : List Worker) → AreSeated thieves workers → All HasNone workers → All (λ (worker : Worker). IsWhole worker.lane) workers
whole_lanes thieves workers s none k d below =
    let split = ap (λ (post : Post). post.ends.split) (get_or-map post_of workers k d (post_of d) below) in
    let joined = ap (λ (post : Post). post.ends.joined) (get_or-map post_of workers k d (post_of d) below) in
    omega (arith, s.1.1 k (post_of d) (omega (arith, below, length-map workers post_of)), none_held workers none k, split, joined)

some_of : {X : Type 0} (xs : List X) (i : ℕ) → i < length xs → X
some_of [] i below = absurd (omega arith)
some_of (x ∷ xs) i below = x

-- a pass of a worker's lane, under the number of that lane
pub new_other : (thieves : List Thief) (workers : List Worker) (i : ℕ) (w : Worker) (other : Other) → i < length workers → w ≡ get_or workers i w → AreSeated thieves workers → other.lane ≡ i → IsPass (lane_id w.lane) other.pass → IsOther thieves other
unfolding IsOther
new_other thieves workers i w other within is s lane of = (
  omega (arith, as_many thieves workers s),
  λ d. subst (λ n. IsPass (thief_id (get_or thieves n d)) other.pass) (sym lane) (subst (λ id. IsPass id other.pass) (sym (thief_at [] thieves workers i w d within is s).1) of),
)

-- a pass is one of the lane that it names
other_within : (loose : List ℕ) (thieves : List Thief) (workers : List Worker) (other : Other) → AreSeatedBut loose thieves workers → IsOther thieves other → other.lane < length workers
unfolding IsOther
other_within loose thieves workers other s of = omega (arith, of.0, as_many_but loose thieves workers s)

-- so where a worker lays its last pass down
pub last_laid : (thieves : List Thief) (workers : List Worker) (i : ℕ) (w v : Worker) (other : Other) → i < length workers → w ≡ get_or workers i w → AreSeated thieves workers → v.lane ≡ w.lane → w.others.items ≡ v.others.items ++ other ∷ []
    → (AreSeatedBut (other.lane ∷ []) thieves (set workers i v) × IsOther thieves other) × (other.lane < length (set workers i v))
last_laid thieves workers i w v other within is s same others =
    let laid = lay_down thieves workers i w v other within is s same others in (
      laid,
      other_within (other.lane ∷ []) thieves (set workers i v) other laid.0 laid.1,
    )

pub other_of_lane : (loose : List ℕ) (thieves : List Thief) (workers : List Worker) (w : Worker) (other : Other) → other.lane < length workers → w ≡ get_or workers other.lane w → AreSeatedBut loose thieves workers → IsOther thieves other → IsOfLane w.lane other.pass
unfolding IsOther
other_of_lane loose thieves workers w other within is s of =
    let d = some_of thieves other.lane of.0 in
    subst (λ id. IsPass id other.pass) (thief_at loose thieves workers other.lane w d within is s).1 (of.1 d)

-- workers without passes stay so where a lane changes
pub none_kept : (workers : List Worker) (i n : ℕ) (w v : Worker) → i < length workers → w ≡ get_or workers i w → v.others.items ≡ w.others.items → AllWithin HasNone workers 0 n → AllWithin HasNone (set workers i v) 0 n
none_kept workers i n w v within is others none k d low high =
    ⊎_elim
    (λ (e : k ≡ i).
    let h : w.others.items ≡ [] = subst HasNone (sym is) (none i w (omega arith) (subst (λ j. j < n) e high)) in
    subst HasNone (sym (ap (λ j. get_or (set workers i v) j d) e ∙ get_or-set_same workers i v d within)) (others ∙ h))
    (λ (split_seats : k ≡ i → ⊥). subst HasNone (sym (get_or-set_other workers i k v d split_seats)) (none k d low high))
    (cases_eq k i)
