-- What a parse has found where nothing refuses the words.
use Rattle.std.proofs.Common.{◌≡◌, ◌∙◌, ◌<◌, ◌&&◌, ◌⊎◌, ℕ, Bool, true, false, cond, zero, suc, refl, sym, ap, subst, arith, inl, inr, List, [], ◌∷◌, ◌++◌, fold, find, length, Option, Some, None, is_some, length-append}
use Rattle.std.specs.Prelude.{⊤, slice_get}
use Rattle.std.specs.Option.{option_map_or}
use Rattle.std.specs.Str.{bytes_eq, chars}
use Rattle.std.proofs.lemmas.Slice.Eq.{bytes_eq-Decides}
use Rattle.clap.specs.Facts.{unwrap_or_range}
use Rattle.clap.specs.Kinds.{Kinds, or_else, range_kinds}
use Rattle.clap.specs.Walk.{Held, Names, Outcome, done, waits, plain, refused, Row, Rule, Step, next, trailing, subcommand, value, Text, Waiting, idle, option, positional, Walk}
use Rattle.clap.specs.Walk.{action_of, after_flag, after_step, arg_by_id, arg_by_index, arg_by_long, arg_by_short, attached_value, bundle_met, bundle_step, flag_met, is_pending, long_met, long_or_other, more_values, option_met, option_word, plain_word, positional_held, pushed, reacted, reading_by, settled, settled_rows, short_met, short_or_plain, subcommand_met, subcommand_or_other, takes_several, takes_values, to_positional, used, used_as, used_by_id, values_or_missing, walked, walked_from, with_values, without, word_met}
use Rattle.clap.specs.Simple.{Shape}
use Rattle.clap.specs.Takes.{value_passes}
use Rattle.clap.specs.Faults.{action_fault, bundle_step_fault, flag_word_fault, flags_fault, long_fault, option_fault, other_fault, positional_fault, react_fault, settle_fault, short_fault, step_fault, stray_fault, turn_fault, use_fault, values_fault, walk_fault, word_fault}
use Rattle.clap.specs.Lexer.{long_of, short_of}
use Rattle.clap.specs.declared.builder.action.ArgAction.{ArgAction}
use Rattle.clap.specs.declared.builder.action.ArgAction.TheVariants.{Set, Append, SetTrue, Help}
use Rattle.clap.specs.declared.error.kind.ErrorKind.{ErrorKind}
use Rattle.clap.specs.declared.parser.matches.ValueSource.{ValueSource}
use Rattle.clap.specs.declared.parser.matches.ValueSource.TheVariants.{CommandLine}

-- ---- lists

-- each element has the property
abbrev pub Each : {X : Type 0} → (X → Type 0) → List X → Type 0
Each P [] = ⊤
Each P (x ∷ xs) = P x × Each P xs

each_append : {X : Type 0} (P : X → Type 0) (xs ys : List X) → Each P xs → Each P ys → Each P (xs ++ ys)
each_append P [] ys p q = q
each_append P (x ∷ xs) ys p q = (p.0, each_append P xs ys p.1 q)

pub each_find : {X : Type 0} (P : X → Type 0) (p : X → Bool) (xs : List X) (x : X) → find p xs ≡ Some x → Each P xs → P x
each_find P p [] x e each = cc
each_find P p (y ∷ ys) x e each = go (p y) e (λ f. each_find P p ys x f each.1)
  where
    go : (b : Bool) → cond b (Some y) (find p ys) ≡ Some x → (find p ys ≡ Some x → P x) → P x
    go true e further = let same : y ≡ x = cc in subst P same each.0
    go false e further = further e

-- ---- kinds of faults

pub no_kinds : (a b : Kinds) → or_else a b ≡ [] → (a ≡ []) × (b ≡ [])
no_kinds [] b e = (refl, e)
no_kinds (k ∷ ks) b e = cc

passed : (b : Bool) (k : ErrorKind) → cond b [] (k ∷ []) ≡ [] → b ≡ true
passed true k e = refl
passed false k e = cc

has_some : (most n : ℕ) → range_kinds 1 most n ≡ [] → 0 < n
has_some most zero e = cc
has_some most (suc n) e = omega arith

-- each text passes the rule's parser
abbrev pub AllPass : Rule → List Text → Type 0
AllPass a = Each (λ v. value_passes a v ≡ true)

all_pass : (a : Rule) (vs : List Text) → values_fault a vs ≡ [] → AllPass a vs
all_pass a [] e = tt
all_pass a (v ∷ vs) e =
    let both = no_kinds _ _ e in
    (passed (value_passes a v) _ both.0, all_pass a vs both.1)

-- ---- rows

-- a use takes a value
abbrev pub TakesValue : Rule → Type 0
TakesValue a = ((action_of a ≡ Set) ⊎ (action_of a ≡ Append)) × ((unwrap_or_range a.range).start_inclusive ≡ 1)

-- the rule is a flag, and a value stands for a use
abbrev pub IsSetByUse : Rule → Type 0
IsSetByUse a = (action_of a ≡ SetTrue) × (0 < length a.missing)

-- no other rule before this one has its id, a use takes a value, asks for help or sets a flag, and the defaults pass
abbrev pub IsOwn : List Rule → Rule → Type 0
IsOwn c a = (arg_by_id c a.id ≡ Some a) × (TakesValue a ⊎ ((action_of a ≡ Help) ⊎ IsSetByUse a)) × AllPass a a.defaults

-- the row has a value, and each of its values passes the parser of its rule
abbrev pub Fits : List Rule → Row → Type 0
Fits c r = (a : Rule) × (arg_by_id c r.id ≡ Some a) × (0 < length r.values) × AllPass a r.values × (r.reading ≡ reading_by a)

abbrev pub AllFit : List Rule → List Row → Type 0
AllFit c = Each (Fits c)

more_fits : (c : List Rule) (a : Rule) (s : ValueSource) (vs : List Text) (r : Row) → arg_by_id c a.id ≡ Some a → AllPass a vs → r.id ≡ a.id → Fits c r
    → AllFit c (more_values s vs r)
more_fits c a s vs r own pass is fit =
    let here : arg_by_id c r.id ≡ Some a = ap (arg_by_id c) is ∙ own in
    let same : fit.0 ≡ a = cc in
    let old : AllPass a r.values = subst (λ (b : Rule). AllPass b r.values) same fit.3 in
    ((a, here, omega (arith, fit.2, length-append r.values vs), each_append _ r.values vs old pass, fit.4 ∙ ap reading_by same), tt)

pub values_fit : (c : List Rule) (a : Rule) (s : ValueSource) (vs : List Text) (rows : List Row) → arg_by_id c a.id ≡ Some a → 0 < length vs → AllPass a vs → AllFit c rows
    → AllFit c (with_values a.id (reading_by a) s vs rows)
values_fit c a s vs [] own some pass fit = ((a, own, some, pass, refl), tt)
values_fit c a s vs (r ∷ rs) own some pass fit = go (bytes_eq r.id a.id) refl (values_fit c a s vs rs own some pass fit.1)
  where
    go : (b : Bool) → bytes_eq r.id a.id ≡ b → AllFit c (with_values a.id (reading_by a) s vs rs)
        → AllFit c (cond b (more_values s vs r ++ rs) (r ∷ with_values a.id (reading_by a) s vs rs))
    go true e further = each_append (Fits c) (more_values s vs r) rs (more_fits c a s vs r own pass ((bytes_eq-Decides r.id a.id).0 e) fit.0) fit.1
    go false e further = (fit.0, further)

without_fit : (c : List Rule) (id : Text) (rows : List Row) → AllFit c rows → AllFit c (without id rows)
without_fit c id [] fit = tt
without_fit c id (r ∷ rs) fit = go (bytes_eq r.id id) (without_fit c id rs fit.1)
  where
    go : (b : Bool) → AllFit c (without id rs) → AllFit c (cond b ([] ++ rs) (r ∷ without id rs))
    go true further = fit.1
    go false further = (fit.0, further)

-- ---- one use of an argument

module _ (s : Shape) (own : Each (IsOwn s.rules) s.rules) where
  abbrev pub FitHeld : Held → Type 0
  FitHeld h = AllFit s.rules h.rows

  own_rule : (p : Rule → Bool) (a : Rule) → find p s.rules ≡ Some a → IsOwn s.rules a
  own_rule p a e = each_find (IsOwn s.rules) p s.rules a e own

  set_fits : (a : Rule) (vs : List Text) (rows : List Row) → IsOwn s.rules a → 0 < length vs → AllFit s.rules rows
      → action_fault Set s.args_override_self a vs rows ≡ [] → AllFit s.rules (used_as Set a.id (reading_by a) vs rows)
  set_fits a vs rows is some fit e =
      let both = no_kinds _ _ e in
      values_fit s.rules a CommandLine vs (without a.id rows) is.0 some (all_pass a vs both.1) (without_fit s.rules a.id rows fit)

  append_fits : (a : Rule) (vs : List Text) (rows : List Row) → IsOwn s.rules a → 0 < length vs → AllFit s.rules rows
      → action_fault Append s.args_override_self a vs rows ≡ [] → AllFit s.rules (used_as Append a.id (reading_by a) vs rows)
  append_fits a vs rows is some fit e = values_fit s.rules a CommandLine vs rows is.0 some (all_pass a vs e) fit

  taken_fits : (a : Rule) (vs : List Text) (rows : List Row) → IsOwn s.rules a → ((action_of a ≡ Set) ⊎ (action_of a ≡ Append)) → 0 < length vs → AllFit s.rules rows
      → action_fault (action_of a) s.args_override_self a (values_or_missing a vs) rows ≡ []
      → AllFit s.rules (used_as (action_of a) a.id (reading_by a) (values_or_missing a vs) rows)
  taken_fits a [] rows is way some fit e = absurd (omega arith)
  taken_fits a (v ∷ vs) rows is way some fit e = elim way [
    | inl set ↦ subst (λ (x : ArgAction). action_fault x s.args_override_self a (v ∷ vs) rows ≡ [] → AllFit s.rules (used_as x a.id (reading_by a) (v ∷ vs) rows)) (sym set) (set_fits a (v ∷ vs) rows is some fit) e
    | inr append ↦ subst (λ (x : ArgAction). action_fault x s.args_override_self a (v ∷ vs) rows ≡ [] → AllFit s.rules (used_as x a.id (reading_by a) (v ∷ vs) rows)) (sym append) (append_fits a (v ∷ vs) rows is some fit) e
  ]

  some_value : (a : Rule) (vs : List Text) → 0 < length a.missing → 0 < length (values_or_missing a vs)
  some_value a [] some = some
  some_value a (v ∷ vs) some = omega arith

  flag_used : (a : Rule) (vs : List Text) (rows : List Row) → IsOwn s.rules a → IsSetByUse a → AllFit s.rules rows
      → action_fault (action_of a) s.args_override_self a (values_or_missing a vs) rows ≡ []
      → AllFit s.rules (used_as (action_of a) a.id (reading_by a) (values_or_missing a vs) rows)
  flag_used a vs rows is flag fit e =
      subst (λ (x : ArgAction). action_fault x s.args_override_self a (values_or_missing a vs) rows ≡ [] → AllFit s.rules (used_as x a.id (reading_by a) (values_or_missing a vs) rows)) (sym flag.0)
      (set_fits a (values_or_missing a vs) rows is (some_value a vs flag.1) fit) e

  used_fits : (a : Rule) (vs : List Text) (rows : List Row) → IsOwn s.rules a → AllFit s.rules rows → use_fault s.args_override_self a vs rows ≡ [] → AllFit s.rules (used a vs rows)
  used_fits a vs rows is fit e =
      let both = no_kinds _ _ e in
      elim is.1 [
        | inl takes ↦ taken_fits a vs rows is takes.0 (has_some _ (length vs) (subst (λ (n : ℕ). range_kinds n (unwrap_or_range a.range).end_inclusive (length vs) ≡ []) takes.1 both.0)) fit both.1
        | inr (inl help) ↦ subst (λ (x : ArgAction). AllFit s.rules (used_as x a.id (reading_by a) (values_or_missing a vs) rows)) (sym help) fit
        | inr (inr flag) ↦ flag_used a vs rows is flag fit both.1
      ]

  pending_fits : (p : Option (Text × List Text)) (rows : List Row) → AllFit s.rules rows
      → option_map_or (λ q. option_map_or (λ a. use_fault s.args_override_self a q.1 rows) (arg_by_id s.rules q.0) []) p [] ≡ [] → AllFit s.rules (settled_rows s.rules p rows)
  pending_fits None rows fit e = fit
  pending_fits (Some q) rows fit e = go (arg_by_id s.rules q.0) refl e
    where
      go : (o : Option Rule) → arg_by_id s.rules q.0 ≡ o → option_map_or (λ a. use_fault s.args_override_self a q.1 rows) o [] ≡ [] → AllFit s.rules (used_by_id o q.1 rows)
      go None is e = fit
      go (Some a) is e = used_fits a q.1 rows (own_rule _ a is) fit e

  pub settled_fits : (h : Held) → FitHeld h → settle_fault s.rules s.args_override_self h ≡ [] → FitHeld (settled s.rules h)
  settled_fits h fit e = pending_fits h.pending h.rows fit e

  reacted_fits : (a : Rule) (vs : List Text) (h : Held) → IsOwn s.rules a → FitHeld h → react_fault s.rules s.args_override_self a vs h ≡ [] → FitHeld (reacted s.rules a vs h)
  reacted_fits a vs h is fit e =
      let both = no_kinds _ _ e in
      used_fits a vs (settled s.rules h).rows is (settled_fits h fit both.0) both.1

  -- ---- a flag word

  option_fits : (a : Rule) (v : Option Text) (h : Held) → IsOwn s.rules a → FitHeld h → option_fault s.rules s.args_override_self a v h ≡ [] → FitHeld (option_met s.rules a v h).0
  option_fits a (Some v) h is fit e = reacted_fits a (v ∷ []) h is fit e
  option_fits a None h is fit e = settled_fits h fit e

  long_fits : (o : Option Rule) (v : Option Text) (h : Held) → ((a : Rule) → o ≡ Some a → IsOwn s.rules a) → FitHeld h
      → long_fault s.rules s.args_override_self o v h ≡ [] → FitHeld (long_met s.rules o v h).0
  long_fits None v h is fit e = fit
  long_fits (Some a) v h is fit e = go (takes_values a) e
    where
      flag : (v : Option Text) → cond (is_some v) (Rattle.clap.specs.declared.error.kind.ErrorKind.TheVariants.TooManyValues ∷ []) (react_fault s.rules s.args_override_self a [] h) ≡ [] → FitHeld (flag_met s.rules a v h).0
      flag None e = reacted_fits a [] h (is a refl) fit e
      flag (Some v) e = fit

      go : (b : Bool) → cond b (option_fault s.rules s.args_override_self a v h) (cond (is_some v) (Rattle.clap.specs.declared.error.kind.ErrorKind.TheVariants.TooManyValues ∷ []) (react_fault s.rules s.args_override_self a [] h)) ≡ []
          → FitHeld (cond b (option_met s.rules a v h) (flag_met s.rules a v h)).0
      go true e = option_fits a v h (is a refl) fit e
      go false e = flag v e

  short_fits : (o : Option Rule) (rest : Text) (h : Held) (fault : Held → Kinds) (met : Held → Held × Outcome) → ((a : Rule) → o ≡ Some a → IsOwn s.rules a)
      → ((k : Held) → FitHeld k → fault k ≡ [] → FitHeld (met k).0) → FitHeld h
      → short_fault s.rules s.args_override_self o rest h fault ≡ [] → FitHeld (short_met s.rules o rest h met).0
  short_fits None rest h fault met is more fit e = fit
  short_fits (Some a) rest h fault met is more fit e = go (takes_values a) e
    where
      go : (b : Bool) → cond b (option_fault s.rules s.args_override_self a (attached_value rest) h) (or_else (react_fault s.rules s.args_override_self a [] h) (fault (reacted s.rules a [] h))) ≡ []
          → FitHeld (cond b (option_met s.rules a (attached_value rest) h) (met (reacted s.rules a [] h))).0
      go true e = option_fits a (attached_value rest) h (is a refl) fit e
      go false e =
          let both = no_kinds _ _ e in
          more (reacted s.rules a [] h) (reacted_fits a [] h (is a refl) fit both.0) both.1

  step_fits : (o : Option ℕ) (flags : Text) (skip : ℕ) (so_far : Outcome) (h : Held) (fault : Text → ℕ → Held → Kinds) (met : Text → ℕ → Outcome → Held → Held × Outcome)
      → ((t : Text) (n : ℕ) (x : Outcome) (k : Held) → FitHeld k → fault t n k ≡ [] → FitHeld (met t n x k).0) → FitHeld h
      → bundle_step_fault s.rules s.args_override_self o flags skip h fault ≡ [] → FitHeld (bundle_step s.rules o flags skip so_far h met).0
  step_fits None flags skip so_far h fault met more fit e = fit
  step_fits (Some x) flags zero so_far h fault met more fit e =
      short_fits (arg_by_short s.rules x) _ h _ _ (λ a is. own_rule _ a is) (λ k. more _ 0 done k) fit e
  step_fits (Some x) flags (suc skip) so_far h fault met more fit e = more _ skip so_far h fit e

  flags_fit : (n : ℕ) (flags : Text) (skip : ℕ) (so_far : Outcome) (h : Held) → FitHeld h → flags_fault s.rules s.args_override_self n flags skip h ≡ []
      → FitHeld (bundle_met s.rules n flags skip so_far h).0
  unfolding bundle_met flags_fault
  flags_fit zero flags skip so_far h fit e = fit
  flags_fit (suc n) flags skip so_far h fit e =
      step_fits (slice_get (chars flags) 0) flags skip so_far h (flags_fault s.rules s.args_override_self n) (bundle_met s.rules n)
      (λ t k x held. flags_fit n t k x held) fit e

  -- ---- a word

  plain_fits : (w : Waiting) (word : Text) (h : Held) → FitHeld h → FitHeld (plain_word s.rules w word h).0
  plain_fits idle word h fit = fit
  plain_fits positional word h fit = fit
  plain_fits (option id) word h fit = go (arg_by_id s.rules id)
    where
      go : (o : Option Rule) → FitHeld (option_word o id word h).0
      go None = fit
      go (Some a) = fit

  flag_fits : (w : Waiting) (word : Text) (h : Held) (x : Outcome) → FitHeld h → FitHeld (after_flag s.rules w word h x).0
  flag_fits w word h done fit = fit
  flag_fits w word h (waits id) fit = fit
  flag_fits w word h plain fit = plain_fits w word h fit
  flag_fits w word h refused fit = plain_fits w word h fit

  flag_word_fits : (o : Option (Text × Option Text)) (w : Waiting) (word : Text) (h : Held) → FitHeld h
      → flag_word_fault s.rules s.args_override_self o word h ≡ [] → FitHeld (long_or_other s.rules w word o h).0
  flag_word_fits (Some p) w word h fit e =
      flag_fits w word _ _ (long_fits (arg_by_long s.rules p.0) p.1 h (λ a is. own_rule _ a is) fit e)
  flag_word_fits None w word h fit e = go (short_of word) e
    where
      go : (o : Option Text) → option_map_or (λ flags. flags_fault s.rules s.args_override_self (length flags) flags h.skip (record h { skip = 0 })) o [] ≡ []
          → FitHeld (short_or_plain s.rules w word o h).0
      go None e = plain_fits w word h fit
      go (Some flags) e = flag_fits w word _ _ (flags_fit (length flags) flags h.skip plain (record h { skip = 0 }) fit e)

  other_fits : (o : Option Text) (w : Waiting) (position : ℕ) (word : Text) (h : Held) → FitHeld h
      → other_fault s o word h ≡ [] → FitHeld (subcommand_or_other s.rules o w position word h).0
  other_fits (Some name) w position word h fit e = fit
  other_fits None w position word h fit e = go (bytes_eq word (45 ∷ 45 ∷ [])) e
    where
      go : (b : Bool) → cond b [] (flag_word_fault s.rules s.args_override_self (long_of word) word h) ≡ []
          → FitHeld (cond b (h, trailing position) (long_or_other s.rules w word (long_of word) h)).0
      go true e = fit
      go false e = flag_word_fits (long_of word) w word h fit e

  word_fits : (names : Names) (b : Bool) (w : Waiting) (position : ℕ) (word : Text) (h : Held) → FitHeld h
      → word_fault s names b w word h ≡ [] → FitHeld (word_met s.rules names b w position word h).0
  word_fits names true w position word h fit e = fit
  word_fits names false w position word h fit e = other_fits (subcommand_met names w word) w position word h fit e

  positional_fits : (a : Rule) (word : Text) (h : Held) → FitHeld h → positional_fault s.rules s.args_override_self a h ≡ [] → FitHeld (positional_held s.rules a word h)
  positional_fits a word h fit e = go (is_pending a h.pending && takes_several a) e
    where
      go : (b : Bool) → cond b [] (settle_fault s.rules s.args_override_self h) ≡ [] → FitHeld (pushed a.id word (cond b h (settled s.rules h)))
      go true e = fit
      go false e = settled_fits h fit e

  after_fits : (word : Text) (w : Walk) (h : Held) (x : Step) → FitHeld h → step_fault s w.position h x ≡ [] → FitHeld (after_step s.rules word w h x).held
  after_fits word w h (next waiting) fit e = fit
  after_fits word w h (trailing position) fit e = fit
  after_fits word w h (subcommand name) fit e = fit
  after_fits word w h value fit e = go (arg_by_index s.rules w.position) e
    where
      go : (o : Option Rule) → option_map_or (λ a. positional_fault s.rules s.args_override_self a h) o (stray_fault s) ≡ [] → FitHeld (to_positional s.rules o word w h).held
      go None e = fit
      go (Some a) e = positional_fits a word h fit e

  turn_fits : (names : Names) (w : Walk) (word : Text) → FitHeld w.held → turn_fault s names w word ≡ [] → FitHeld (walked s.rules names w word).held
  unfolding walked
  turn_fits names w word fit e = go w.stopped e
    where
      go : (o : Option (Text × List Text))
          → cond (is_some o) [] (or_else (word_fault s names w.is_trailing w.waiting word w.held)
          (step_fault s w.position (word_met s.rules names w.is_trailing w.waiting w.position word w.held).0 (word_met s.rules names w.is_trailing w.waiting w.position word w.held).1)) ≡ []
          → FitHeld (walked_from s.rules names o w word).held
      go (Some p) e = fit
      go None e =
          let both = no_kinds _ _ e in
          after_fits word w _ _ (word_fits names w.is_trailing w.waiting w.position word w.held fit both.0) both.1

  -- what is held after words that nothing refuses
  pub walk_fits : (names : Names) (w : Walk) (words : List Text) → FitHeld w.held → walk_fault s names w words ≡ [] → FitHeld (fold (walked s.rules names) w words).held
  unfolding walk_fault
  walk_fits names w [] fit e = fit
  walk_fits names w (word ∷ rest) fit e =
      let both = no_kinds _ _ e in
      walk_fits names (walked s.rules names w word) rest (turn_fits names w word fit both.0) both.1
