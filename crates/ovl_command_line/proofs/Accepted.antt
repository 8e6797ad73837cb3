-- Words that nothing refuses name a command, and give it its options.
use Rattle.std.proofs.Common.{◌≡◌, ◌∙◌, ◌<◌, ◌||◌, ◌⊎◌, ℕ, Bool, true, false, not, cond, refl, sym, ap, subst, arith, inl, inr, List, [], ◌∷◌, ◌++◌, codes, fold, find, length, Option, Some, None, is_some}
use Rattle.std.specs.Prelude.{IfSome, option_and_then, option_map, slice_get}
use Rattle.std.specs.List.{list_any}
use Rattle.std.specs.Option.{option_map_or}
use Rattle.std.specs.Str.{bytes_eq}
use Rattle.std.proofs.lemmas.Slice.Eq.{bytes_eq-Decides}
use Rattle.clap.specs.Facts.{explicit_source}
use Rattle.clap.specs.Kinds.{Kinds, check_kinds}
use Rattle.clap.specs.Values.{IsUnsignedIn}
use Rattle.clap.specs.Walk.{Names, Row, Rule, Text, all_of, answers_to, arg_by_id, default_rows, first_of, has_row, more_values, nothing_held, one_of, reading_by, row_text, rows_after, settled, stop_after, walk, walk_from, with_default, with_values}
use Rattle.clap.specs.Simple.{Shape, built, built_leaf, entered, filled, inherited, label_of, marked_built, names_of, rows_at, subcommand_of, with_leaf_noted}
use Rattle.clap.specs.Takes.{is_given, value_passes}
use Rattle.clap.specs.Faults.{check_fault, entered_fault, fault_of, level_fault, settle_fault, walk_fault}
use Rattle.clap.specs.declared.parser.matches.ValueSource.{ValueSource}
use Rattle.clap.specs.declared.parser.matches.ValueSource.TheVariants.{DefaultValue}
use Rattle.clap.specs.declared.builder.value_parser.Reading.{Reading}
use Rattle.clap.specs.declared.builder.value_parser.Reading.TheVariants.{AsWritten}
use Rattle.clap.specs.declared.builder.value_parser.ValueParser.TheVariants.{Bool as Boolean, NonEmptyString, Unsigned}
use Rattle.clap.proofs.ValueTestLemmas.{accepts-Accepts}
use Rattle.ovl_command_line.specs.Commands.{any_size_rule, blobs_rule, data_layers_rule, down_to_rule, fsck_shape, merge_shape, out_rule, show_shape, rewriting_shape, tool_app, workers_rule}
use Rattle.ovl_command_line.specs.Lines.{HasNumber, IsFlag, IsGiven, name_of}
use Rattle.ovl_commands.specs.declared.requests.Command.{Command}
use Rattle.ovl_commands.specs.Commands.{checks, makes_layers}
use Rattle.ovl_commands.specs.declared.requests.Command.TheVariants.{Show, Fsck, Vacuum, Deref, Merge, Flatten}
use Rattle.ovl_command_line.proofs.Taken.{AllFit, AllPass, Each, Fits, IsOwn, each_find, no_kinds, values_fit, walk_fits, settled_fits}

-- ---- searches

or_right : (a b : Bool) → b ≡ true → (a || b) ≡ true
or_right true b e = refl
or_right false b e = e

found_passes : {X : Type 0} (p : X → Bool) (xs : List X) (x : X) → find p xs ≡ Some x → p x ≡ true
found_passes p [] x e = cc
found_passes p (y ∷ ys) x e = go (p y) refl e (found_passes p ys x)
  where
    go : (b : Bool) → p y ≡ b → cond b (Some y) (find p ys) ≡ Some x → (find p ys ≡ Some x → p x ≡ true) → p x ≡ true
    go true is e further = let same : y ≡ x = cc in subst (λ z. p z ≡ true) same is
    go false is e further = further e

any_found : {X : Type 0} (p : X → Bool) (xs : List X) → list_any p xs ≡ true → (x : X) × (find p xs ≡ Some x)
any_found p [] e = cc
any_found p (y ∷ ys) e = go (p y) e (any_found p ys)
  where
    go : (b : Bool) → (b || list_any p ys) ≡ true → (list_any p ys ≡ true → (x : _) × (find p ys ≡ Some x)) → (x : _) × (cond b (Some y) (find p ys) ≡ Some x)
    go true e further = (y, refl)
    go false e further = further e

-- ---- rows after the defaults

-- values under one id leave the rows of the others
row_stays : (id other : Text) (how : Reading) (s : ValueSource) (vs : List Text) (rows : List Row) → has_row id rows ≡ true → has_row id (with_values other how s vs rows) ≡ true
row_stays id other how s vs [] there = cc
row_stays id other how s vs (r ∷ rs) there = go (bytes_eq r.id other) (row_stays id other how s vs rs)
  where
    here : (b : Bool) → (b || has_row id rs) ≡ true → (has_row id rs ≡ true → has_row id (with_values other how s vs rs) ≡ true) → (b || has_row id (with_values other how s vs rs)) ≡ true
    here true e further = refl
    here false e further = further e

    go : (b : Bool) → (has_row id rs ≡ true → has_row id (with_values other how s vs rs) ≡ true)
        → has_row id (cond b (more_values s vs r ++ rs) (r ∷ with_values other how s vs rs)) ≡ true
    go true further = there
    go false further = here (bytes_eq r.id id) there further

row_made : (id : Text) (how : Reading) (s : ValueSource) (vs : List Text) (rows : List Row) → has_row id (with_values id how s vs rows) ≡ true
row_made id how s vs [] = rw ((bytes_eq-Decides id id).1 refl) refl
row_made id how s vs (r ∷ rs) = go (bytes_eq r.id id) refl (row_made id how s vs rs)
  where
    go : (b : Bool) → bytes_eq r.id id ≡ b → has_row id (with_values id how s vs rs) ≡ true → has_row id (cond b (more_values s vs r ++ rs) (r ∷ with_values id how s vs rs)) ≡ true
    go true is further = rw is refl
    go false is further = or_right (bytes_eq r.id id) _ further

default_stays : (id : Text) (a : Rule) (rows : List Row) → has_row id rows ≡ true → has_row id (with_default rows a) ≡ true
default_stays id a rows there = go (has_row a.id rows)
  where
    given : (vs : List Text) → has_row id (default_rows a.id (reading_by a) vs rows) ≡ true
    given [] = there
    given (v ∷ vs) = row_stays id a.id (reading_by a) DefaultValue (v ∷ vs) rows there

    go : (b : Bool) → has_row id (cond b rows (default_rows a.id (reading_by a) a.defaults rows)) ≡ true
    go true = there
    go false = given a.defaults

defaults_stay : (id : Text) (xs : List Rule) (rows : List Row) → has_row id rows ≡ true → has_row id (fold with_default rows xs) ≡ true
defaults_stay id [] rows there = there
defaults_stay id (a ∷ xs) rows there = defaults_stay id xs (with_default rows a) (default_stays id a rows there)

default_made : (a : Rule) (v : Text) (vs : List Text) (rows : List Row) → a.defaults ≡ v ∷ vs → has_row a.id (with_default rows a) ≡ true
default_made a v vs rows defaults = go (has_row a.id rows) refl
  where
    go : (b : Bool) → has_row a.id rows ≡ b → has_row a.id (cond b rows (default_rows a.id (reading_by a) a.defaults rows)) ≡ true
    go true there = there
    go false there = subst (λ (ds : List Text). has_row a.id (default_rows a.id (reading_by a) ds rows) ≡ true) (sym defaults) (row_made a.id (reading_by a) DefaultValue (v ∷ vs) rows)

default_fits : (c : List Rule) (a : Rule) (rows : List Row) → IsOwn c a → AllFit c rows → AllFit c (with_default rows a)
default_fits c a rows is fit = go (has_row a.id rows)
  where
    given : (vs : List Text) → AllPass a vs → AllFit c (default_rows a.id (reading_by a) vs rows)
    given [] pass = fit
    given (v ∷ vs) pass = values_fit c a DefaultValue (v ∷ vs) rows is.0 (omega arith) pass fit

    go : (b : Bool) → AllFit c (cond b rows (default_rows a.id (reading_by a) a.defaults rows))
    go true = fit
    go false = given a.defaults is.2

defaults_fit : (c xs : List Rule) (rows : List Row) → Each (IsOwn c) xs → AllFit c rows → AllFit c (fold with_default rows xs)
defaults_fit c [] rows own fit = fit
defaults_fit c (a ∷ xs) rows own fit = defaults_fit c xs (with_default rows a) own.1 (default_fits c a rows own.0 fit)

-- ---- a command's level

-- no step of a level that nothing refuses does
level_parts : (s : Shape) (names : Names) (words : List Text) (has : Bool) (below : Kinds) → level_fault s names nothing_held words has below ≡ []
    → (walk_fault s names (walk_from nothing_held) words ≡ []) × (below ≡ [])
    × (settle_fault s.rules s.args_override_self (walk s.rules names nothing_held words).held ≡ []) × (check_fault s (rows_after s.rules names words) has ≡ [])
level_parts s names words has below e =
    let walked = no_kinds _ _ e in
    let enters = no_kinds _ _ walked.1 in
    let settles = no_kinds _ _ enters.1 in
    let defaults = no_kinds _ _ settles.1 in
    (walked.0, enters.0, settles.0, defaults.1)

-- the rows fit the rules
level_fits : (s : Shape) (words : List Text) → Each (IsOwn s.rules) s.rules → level_fault s [] nothing_held words false [] ≡ [] → AllFit s.rules (rows_after s.rules [] words)
level_fits s words own e =
    let parts = level_parts s [] words false [] e in
    let end = (walk s.rules [] nothing_held words).held in
    let held = walk_fits s own [] (walk_from nothing_held) words tt parts.0 in
    defaults_fit s.rules s.rules (settled s.rules end).rows own (settled_fits s own end held parts.2)

-- the row of an id has a first value, which passes the parser of the id's rule
row_of_rule : (c : List Rule) (id : Text) (a : Rule) (rows : List Row) (r : Row) → AllFit c rows → find (λ r. bytes_eq r.id id) rows ≡ Some r → arg_by_id c id ≡ Some a
    → (v : Text) × (vs : List Text) × (r.values ≡ v ∷ vs) × (value_passes a v ≡ true) × (r.reading ≡ reading_by a)
row_of_rule c id a rows r fit found rule =
    let fits = each_find (Fits c) (λ r. bytes_eq r.id id) rows r found fit in
    let is : r.id ≡ id = (bytes_eq-Decides r.id id).0 (found_passes (λ r. bytes_eq r.id id) rows r found) in
    let here : arg_by_id c r.id ≡ Some a = ap (arg_by_id c) is ∙ rule in
    let own = fits.1 in
    let same : fits.0 ≡ a = cc in
    go r.values fits.2 (subst (λ (b : Rule). AllPass b r.values) same fits.3) (fits.4 ∙ ap reading_by same)
  where
    go : (vals : List Text) → 0 < length vals → AllPass a vals → r.reading ≡ reading_by a
        → (v : Text) × (vs : List Text) × (vals ≡ v ∷ vs) × (value_passes a v ≡ true) × (r.reading ≡ reading_by a)
    go [] some pass reads = absurd (omega arith)
    go (v ∷ vs) some pass reads = (v, vs, refl, pass.0, reads)

-- ---- the options

-- an id that no rule has is in no row
absent_by : {Y : Type 0} (read : Row → Option Y) (c : List Rule) (id : Text) (rows : List Row) → AllFit c rows → arg_by_id c id ≡ None → option_and_then read (find (λ r. bytes_eq r.id id) rows) ≡ None
absent_by read c id rows fit none = go (find (λ r. bytes_eq r.id id) rows) refl
  where
    go : (o : Option Row) → find (λ r. bytes_eq r.id id) rows ≡ o → option_and_then read o ≡ None
    go None found = refl
    go (Some r) found =
        let fits = each_find (Fits c) (λ r. bytes_eq r.id id) rows r found fit in
        let is : r.id ≡ id = (bytes_eq-Decides r.id id).0 (found_passes (λ r. bytes_eq r.id id) rows r found) in
        let here : arg_by_id c r.id ≡ None = ap (arg_by_id c) is ∙ none in
        let own = fits.1 in
        cc

absent : (c : List Rule) (id : Text) (rows : List Row) → AllFit c rows → arg_by_id c id ≡ None → first_of id rows ≡ None
absent c id rows fit none = absent_by (λ r. slice_get r.values 0) c id rows fit none

given_found : (o : Option Row) → option_map_or (λ r. explicit_source r.source) o false ≡ true → (r : Row) × (o ≡ Some r)
given_found None e = cc
given_found (Some r) e = (r, refl)

first_given : (c : List Rule) (id : Text) (a : Rule) (rows : List Row) → AllFit c rows → arg_by_id c id ≡ Some a → is_given id rows ≡ true → is_some (first_of id rows) ≡ true
first_given c id a rows fit rule given =
    let found = given_found (find (λ r. bytes_eq r.id id) rows) given in
    let first = row_of_rule c id a rows found.0 fit found.1 rule in
    rw (found.1, first.2) refl

-- what the parser of an id's rule says of a value holds of its first one
first_passes : (c : List Rule) (id : Text) (a : Rule) (P : Text → Type 0) (rows : List Row) → AllFit c rows → arg_by_id c id ≡ Some a → ((v : Text) → value_passes a v ≡ true → P v)
    → IfSome (first_of id rows) P
first_passes c id a P rows fit rule passes = go (find (λ r. bytes_eq r.id id) rows) refl
  where
    go : (o : Option Row) → find (λ r. bytes_eq r.id id) rows ≡ o → IfSome (option_and_then (λ r. slice_get r.values 0) o) P
    go None found = tt
    go (Some r) found = let first = row_of_rule c id a rows r fit found rule in rw first.2 (passes first.0 first.3)

-- an option that isn't there has no value
absent_passes : (P : Text → Type 0) (o : Option Text) → o ≡ None → IfSome o P
absent_passes P None e = tt
absent_passes P (Some v) e = cc

files_given : (c : List Rule) (id : Text) (a : Rule) (rows : List Row) → AllFit c rows → arg_by_id c id ≡ Some a → is_given id rows ≡ true
    → (files : List Text) × (all_of id rows ≡ Some files) × (0 < length files)
files_given c id a rows fit rule given =
    let found = given_found (find (λ r. bytes_eq r.id id) rows) given in
    let first = row_of_rule c id a rows found.0 fit found.1 rule in
    (found.0.values, ap (option_map (λ (r : Row). r.values)) found.1, rw first.2 (omega arith))

first_text : (r : Row) (v : Text) (vs : List Text) → r.values ≡ v ∷ vs → r.reading ≡ AsWritten → row_text r ≡ Some v
first_text r v vs values reading = rw (values, reading) refl

-- an option of which there is a row has one value, which spells a number that its parser takes
number_given : (c : List Rule) (id : Text) (a : Rule) (low high : ℕ) (rows : List Row) → AllFit c rows → arg_by_id c id ≡ Some a → reading_by a ≡ AsWritten
    → ((v : Text) → value_passes a v ≡ true → IsUnsignedIn low high v) → has_row id rows ≡ true → HasNumber id low high rows
number_given c id a low high rows fit rule written spells there =
    let found = any_found (λ r. bytes_eq r.id id) rows there in
    let first = row_of_rule c id a rows found.0 fit found.1 rule in
    (first.0, ap (option_and_then row_text) found.1 ∙ first_text found.0 first.0 first.1 first.2 (first.4 ∙ written), spells first.0 first.3)

-- a flag's value spells whether it is there
bool_spelt : (v : Text) → (bytes_eq v (codes "true") || bytes_eq v (codes "false")) ≡ true → (v ≡ codes "true") ⊎ (v ≡ codes "false")
bool_spelt v is = go (bytes_eq v (codes "true")) refl is
  where
    go : (b : Bool) → bytes_eq v (codes "true") ≡ b → (b || bytes_eq v (codes "false")) ≡ true → (v ≡ codes "true") ⊎ (v ≡ codes "false")
    go true e is = inl ((bytes_eq-Decides v (codes "true")).0 e)
    go false e is = inr ((bytes_eq-Decides v (codes "false")).0 is)

flag_given : (c : List Rule) (rows : List Row) → AllFit c rows → arg_by_id c (codes "any-size") ≡ Some (filled any_size_rule) → IsFlag (codes "any-size") rows
flag_given c rows fit rule = go (find (λ r. bytes_eq r.id (codes "any-size")) rows) refl
  where
    go : (o : Option Row) → find (λ r. bytes_eq r.id (codes "any-size")) rows ≡ o → IfSome (option_and_then row_text o) (λ text. (text ≡ codes "true") ⊎ (text ≡ codes "false"))
    go None found = tt
    go (Some r) found =
        let first = row_of_rule c (codes "any-size") (filled any_size_rule) rows r fit found rule in
        rw (first_text r first.0 first.1 first.2 first.4) (bool_spelt first.0 (accepts-Accepts false Boolean first.0 first.3))

no_flag : (o : Option Text) → o ≡ None → option_map_or (λ text. bytes_eq text (codes "true")) o false ≡ true → ⊥
no_flag None e given = cc
no_flag (Some text) e given = cc

-- an option that may be left out has no value, or one that spells a number that its parser takes
number_if_given : (c : List Rule) (id : Text) (a : Rule) (what : Command) (low high : ℕ) (rows : List Row) → AllFit c rows → arg_by_id c id ≡ Some a → reading_by a ≡ AsWritten
    → ((v : Text) → value_passes a v ≡ true → IsUnsignedIn low high v) → IfSome (one_of id rows) (λ text. (what ≡ what) × IsUnsignedIn low high text)
number_if_given c id a what low high rows fit rule written spells = go (find (λ r. bytes_eq r.id id) rows) refl
  where
    go : (o : Option Row) → find (λ r. bytes_eq r.id id) rows ≡ o → IfSome (option_and_then row_text o) (λ text. (what ≡ what) × IsUnsignedIn low high text)
    go None found = tt
    go (Some r) found =
        let first = row_of_rule c id a rows r fit found rule in
        rw (first_text r first.0 first.1 first.2 (first.4 ∙ written)) (refl, spells first.0 first.3)

workers_given : (c : List Rule) (rows : List Row) → AllFit c rows → arg_by_id c (codes "workers") ≡ Some (filled workers_rule) → has_row (codes "workers") rows ≡ true
    → HasNumber (codes "workers") 1 64 rows
workers_given c rows fit rule there =
    number_given c (codes "workers") (filled workers_rule) 1 64 rows fit rule refl (λ v passes. accepts-Accepts false (Unsigned 1 64) v passes) there

data_layers_given : (c : List Rule) (rows : List Row) → AllFit c rows → arg_by_id c (codes "data-layers") ≡ Some (filled data_layers_rule) → has_row (codes "data-layers") rows ≡ true
    → HasNumber (codes "data-layers") 0 127 rows
data_layers_given c rows fit rule there =
    number_given c (codes "data-layers") (filled data_layers_rule) 0 127 rows fit rule refl (λ v passes. accepts-Accepts false (Unsigned 0 127) v passes) there

-- ---- the commands

-- the command as it is built
abbrev leaf : Shape → Shape
leaf s = built_leaf (inherited (with_leaf_noted (marked_built tool_app.top)) s)

abbrev rest_of : List Rule → List Rule
rest_of [] = []
rest_of (a ∷ rest) = rest

own_show : Each (IsOwn (leaf show_shape).rules) (leaf show_shape).rules
own_show = ((refl, inl (inl refl, refl), (refl, tt)), ((refl, inl (inl refl, refl), (refl, tt)), ((refl, inl (inr refl, refl), tt), ((refl, inr (inl refl), tt), tt))))

own_fsck : Each (IsOwn (leaf fsck_shape).rules) (leaf fsck_shape).rules
own_fsck = ((refl, inl (inl refl, refl), tt), ((refl, inr (inr (refl, omega arith)), (refl, tt)), ((refl, inl (inl refl, refl), (refl, tt)), ((refl, inl (inl refl, refl), (refl, tt)), ((refl, inl (inr refl, refl), tt), ((refl, inr (inl refl), tt), tt))))))

own_merge : Each (IsOwn (leaf merge_shape).rules) (leaf merge_shape).rules
own_merge = ((refl, inl (inl refl, refl), tt), ((refl, inr (inr (refl, omega arith)), (refl, tt)), ((refl, inl (inl refl, refl), tt), ((refl, inl (inl refl, refl), tt), ((refl, inl (inl refl, refl), (refl, tt)), ((refl, inl (inl refl, refl), (refl, tt)), ((refl, inl (inr refl, refl), tt), ((refl, inr (inl refl), tt), tt))))))))

one_wanted : (a : Bool) → check_kinds false false (not a || false) ≡ [] → a ≡ true
one_wanted true e = refl
one_wanted false e = cc

own_rewriting : (name : Text) → Each (IsOwn (leaf (rewriting_shape name)).rules) (leaf (rewriting_shape name)).rules
own_rewriting name = ((refl, inl (inl refl, refl), tt), ((refl, inr (inr (refl, omega arith)), (refl, tt)), ((refl, inl (inl refl, refl), tt), ((refl, inl (inl refl, refl), (refl, tt)), ((refl, inl (inl refl, refl), (refl, tt)), ((refl, inl (inr refl, refl), tt), ((refl, inr (inl refl), tt), tt)))))))

two_wanted : (a b : Bool) → check_kinds false false (not a || (not b || false)) ≡ [] → (a ≡ true) × (b ≡ true)
two_wanted true true e = (refl, refl)
two_wanted true false e = cc
two_wanted false b e = cc

three_wanted : (a b c : Bool) → check_kinds false false (not a || (not b || (not c || false))) ≡ [] → (a ≡ true) × (b ≡ true) × (c ≡ true)
three_wanted true true true e = (refl, refl, refl)
three_wanted true true false e = cc
three_wanted true false c e = cc
three_wanted false b c e = cc

show_given : (words : List Text) → level_fault (leaf show_shape) [] nothing_held words false [] ≡ [] → IsGiven Show (rows_after (leaf show_shape).rules [] words)
show_given words e =
    let rules = (leaf show_shape).rules in
    let fit = level_fits (leaf show_shape) words own_show e in
    let check = (level_parts (leaf show_shape) [] words false [] e).3 in
    let rows = rows_after rules [] words in
    let before = (settled rules (walk rules [] nothing_held words).held).rows in
    let after = with_default before (filled workers_rule) in
    let there : has_row (codes "workers") rows ≡ true =
    defaults_stay (codes "workers") (rest_of rules) after (default_made (filled workers_rule) (codes "4") [] before refl) in
    let there_too : has_row (codes "data-layers") rows ≡ true =
    defaults_stay (codes "data-layers") (rest_of (rest_of rules)) (with_default after (filled data_layers_rule)) (default_made (filled data_layers_rule) (codes "0") [] after refl) in
    record {
      workers = workers_given rules rows fit refl there;
      data_layers = data_layers_given rules rows fit refl there_too;
      blobs = ap is_some (absent rules (codes "blobs") rows fit refl);
      out = ap is_some (absent rules (codes "out") rows fit refl);
      out_named = absent_passes _ (first_of (codes "out") rows) (absent rules (codes "out") rows fit refl);
      is_flag = absent_passes _ (one_of (codes "any-size") rows) (absent_by row_text rules (codes "any-size") rows fit refl);
      any_size = λ given. absurd (no_flag (one_of (codes "any-size") rows) (absent_by row_text rules (codes "any-size") rows fit refl) given);
      down_to = absent_passes _ (one_of (codes "down-to") rows) (absent_by row_text rules (codes "down-to") rows fit refl);
      layers = files_given rules (codes "layers") _ rows fit refl (one_wanted _ check);
    }

fsck_given : (words : List Text) → level_fault (leaf fsck_shape) [] nothing_held words false [] ≡ [] → IsGiven Fsck (rows_after (leaf fsck_shape).rules [] words)
fsck_given words e =
    let rules = (leaf fsck_shape).rules in
    let fit = level_fits (leaf fsck_shape) words own_fsck e in
    let check = (level_parts (leaf fsck_shape) [] words false [] e).3 in
    let rows = rows_after rules [] words in
    let before = with_default (with_default (settled rules (walk rules [] nothing_held words).held).rows (filled blobs_rule)) (filled any_size_rule) in
    let after = with_default before (filled workers_rule) in
    let there : has_row (codes "workers") rows ≡ true =
    defaults_stay (codes "workers") (rest_of (rest_of (rest_of rules))) after (default_made (filled workers_rule) (codes "4") [] before refl) in
    let there_too : has_row (codes "data-layers") rows ≡ true =
    defaults_stay (codes "data-layers") (rest_of (rest_of (rest_of (rest_of rules)))) (with_default after (filled data_layers_rule)) (default_made (filled data_layers_rule) (codes "0") [] after refl) in
    let wanted = two_wanted _ _ check in
    record {
      workers = workers_given rules rows fit refl there;
      data_layers = data_layers_given rules rows fit refl there_too;
      blobs = first_given rules (codes "blobs") (filled blobs_rule) rows fit refl wanted.0;
      out = ap is_some (absent rules (codes "out") rows fit refl);
      out_named = absent_passes _ (first_of (codes "out") rows) (absent rules (codes "out") rows fit refl);
      is_flag = flag_given rules rows fit refl;
      any_size = λ given. refl;
      down_to = absent_passes _ (one_of (codes "down-to") rows) (absent_by row_text rules (codes "down-to") rows fit refl);
      layers = files_given rules (codes "layers") _ rows fit refl wanted.1;
    }

-- the options of a command that makes new layers
rewriting_given : (what : Command) → checks what ≡ true → makes_layers what ≡ true → (name : Text) (words : List Text) → level_fault (leaf (rewriting_shape name)) [] nothing_held words false [] ≡ []
    → IsGiven what (rows_after (leaf (rewriting_shape name)).rules [] words)
rewriting_given what checking making name words e =
    let rules = (leaf (rewriting_shape name)).rules in
    let fit = level_fits (leaf (rewriting_shape name)) words (own_rewriting name) e in
    let check = (level_parts (leaf (rewriting_shape name)) [] words false [] e).3 in
    let rows = rows_after rules [] words in
    let before = with_default (with_default (with_default (settled rules (walk rules [] nothing_held words).held).rows (filled blobs_rule)) (filled any_size_rule)) (filled out_rule) in
    let after = with_default before (filled workers_rule) in
    let there : has_row (codes "workers") rows ≡ true =
    defaults_stay (codes "workers") (rest_of (rest_of (rest_of (rest_of rules)))) after (default_made (filled workers_rule) (codes "4") [] before refl) in
    let there_too : has_row (codes "data-layers") rows ≡ true =
    defaults_stay (codes "data-layers") (rest_of (rest_of (rest_of (rest_of (rest_of rules))))) (with_default after (filled data_layers_rule)) (default_made (filled data_layers_rule) (codes "0") [] after refl) in
    let wanted = three_wanted _ _ _ check in
    record {
      workers = workers_given rules rows fit refl there;
      data_layers = data_layers_given rules rows fit refl there_too;
      blobs = first_given rules (codes "blobs") (filled blobs_rule) rows fit refl wanted.0 ∙ sym checking;
      out = first_given rules (codes "out") (filled out_rule) rows fit refl wanted.1 ∙ sym making;
      out_named = first_passes rules (codes "out") (filled out_rule) (λ folder. 0 < length folder) rows fit refl (λ v passes. accepts-Accepts false NonEmptyString v passes);
      is_flag = flag_given rules rows fit refl;
      any_size = λ given. checking;
      down_to = absent_passes _ (one_of (codes "down-to") rows) (absent_by row_text rules (codes "down-to") rows fit refl);
      layers = files_given rules (codes "layers") _ rows fit refl wanted.2;
    }

-- the options of merge
merge_given : (words : List Text) → level_fault (leaf merge_shape) [] nothing_held words false [] ≡ [] → IsGiven Merge (rows_after (leaf merge_shape).rules [] words)
merge_given words e =
    let rules = (leaf merge_shape).rules in
    let fit = level_fits (leaf merge_shape) words own_merge e in
    let check = (level_parts (leaf merge_shape) [] words false [] e).3 in
    let rows = rows_after rules [] words in
    let before = with_default (with_default (with_default (with_default (settled rules (walk rules [] nothing_held words).held).rows (filled blobs_rule)) (filled any_size_rule)) (filled out_rule)) (filled down_to_rule) in
    let after = with_default before (filled workers_rule) in
    let there : has_row (codes "workers") rows ≡ true =
    defaults_stay (codes "workers") (rest_of (rest_of (rest_of (rest_of (rest_of rules))))) after (default_made (filled workers_rule) (codes "4") [] before refl) in
    let there_too : has_row (codes "data-layers") rows ≡ true =
    defaults_stay (codes "data-layers") (rest_of (rest_of (rest_of (rest_of (rest_of (rest_of rules)))))) (with_default after (filled data_layers_rule)) (default_made (filled data_layers_rule) (codes "0") [] after refl) in
    let wanted = three_wanted _ _ _ check in
    record {
      workers = workers_given rules rows fit refl there;
      data_layers = data_layers_given rules rows fit refl there_too;
      blobs = first_given rules (codes "blobs") (filled blobs_rule) rows fit refl wanted.0;
      out = first_given rules (codes "out") (filled out_rule) rows fit refl wanted.1;
      out_named = first_passes rules (codes "out") (filled out_rule) (λ folder. 0 < length folder) rows fit refl (λ v passes. accepts-Accepts false NonEmptyString v passes);
      is_flag = flag_given rules rows fit refl;
      any_size = λ given. refl;
      down_to = number_if_given rules (codes "down-to") (filled down_to_rule) Merge 1 127 rows fit refl refl (λ v passes. accepts-Accepts false (Unsigned 1 127) v passes);
      layers = files_given rules (codes "layers") _ rows fit refl wanted.2;
    }

-- ---- the whole command line

-- a command with its options, by its rows
abbrev pub IsCommandOf : Option (Text × List Row) → Type 0
IsCommandOf found = (what : Command) × (rows : List Row) × (found ≡ Some (name_of what, rows)) × IsGiven what rows

-- where the words after it aren't refused, a command of this shape has its options
abbrev MakesCommand : Shape → Type 0
MakesCommand s = (words : List Text) → level_fault s [] nothing_held words false [] ≡ [] → IsCommandOf (Some (rows_at s words))

rewrites : (what : Command) → checks what ≡ true → makes_layers what ≡ true → MakesCommand (leaf (rewriting_shape (name_of what)))
rewrites what checking making words e =
    (what, rows_after (leaf (rewriting_shape (name_of what))).rules [] words, refl, rewriting_given what checking making (name_of what) words e)

merge_makes : MakesCommand (leaf merge_shape)
merge_makes words e = (Merge, rows_after (leaf merge_shape).rules [] words, refl, merge_given words e)

makes : Each MakesCommand (built tool_app).subs
makes = (
  (λ words e. (Show, rows_after (leaf show_shape).rules [] words, refl, show_given words e)),
  (
    (λ words e. (Fsck, rows_after (leaf fsck_shape).rules [] words, refl, fsck_given words e)),
    (rewrites Vacuum refl refl, (rewrites Deref refl refl, (merge_makes, (rewrites Flatten refl refl, tt)))),
  ),
)

named : (stop : Option (Text × List Text)) (rows : List Row) → entered_fault (built tool_app) stop ≡ []
    → check_fault (built tool_app).top rows (is_some (entered (built tool_app) stop)) ≡ [] → IsCommandOf (entered (built tool_app) stop)
named None rows below check = cc
named (Some p) rows below check = go (find (λ s. answers_to p.0 (label_of s)) (built tool_app).subs) refl below check
  where
    go : (o : Option Shape) → find (λ s. answers_to p.0 (label_of s)) (built tool_app).subs ≡ o
        → option_map_or (λ s. level_fault s [] nothing_held p.1 false []) o [] ≡ []
        → check_fault (built tool_app).top rows (is_some (option_map (λ s. rows_at s p.1) o)) ≡ []
        → IsCommandOf (option_map (λ s. rows_at s p.1) o)
    go None found below check = cc
    go (Some s) found below check = each_find MakesCommand (λ s. answers_to p.0 (label_of s)) (built tool_app).subs s found makes p.1 below

-- words that nothing refuses name a command with its options
pub accepted : (words : List Text) → fault_of tool_app words ≡ [] → IsCommandOf (subcommand_of tool_app words)
accepted words e =
    let program = built tool_app in
    let stop = stop_after program.top.rules (names_of program) words in
    let parts = level_parts program.top (names_of program) words (is_some (entered program stop)) (entered_fault program stop) e in
    named stop (rows_after program.top.rules (names_of program) words) parts.1 parts.3
