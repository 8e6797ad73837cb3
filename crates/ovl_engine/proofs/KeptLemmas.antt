-- New layers in place of the topmost keep the merged tree, where nothing is found to be at fault.
use Rattle.std.proofs.Common.{◌≡◌, ℕ, zero, suc, ◌+◌, ◌-◌, ◌<◌, ◌≤◌, Bool, true, false, cond, Some, None, Result, Ok, Err, List, [], ◌∷◌, ◌++◌, length, take, drop, map, refl, sym, ap, ◌∙◌, subst, append_assoc, arith, length-append, length-drop}
use Rattle.std.specs.Prelude.{◌||◌, ◌==◌, not}
use Rattle.std.specs.List.{All, list_any, list_all}
use Rattle.std.proofs.Math.Seq.{take-append_seam, drop-append_seam}
use Rattle.std.proofs.lemmas.List.{append-nil, length-map, length-take, take-append-drop, drop-append-le}
use Rattle.std.proofs.lemmas.List.Elements.{All-head, All-tail}
use Rattle.std.proofs.lemmas.List.Folds.{sum_by-zero}
use Rattle.ovl_names.specs.Paths.{PathNames}
use Rattle.ovl_names.proofs.Ascending.{both}
use Rattle.ovl_layer.specs.Layers.{Entries, IsLayer}
use Rattle.ovl_manifest.specs.Manifest.{read_layer}
use Rattle.ovl_layer.specs.declared.faults.LayerFault.{LayerFault}
use Rattle.ovl_lookup.specs.Stacks.{StackView, from_layer, stack_with}
use Rattle.ovl_lookup.specs.Merged.{look}
use Rattle.ovl_lookup.specs.Sound.{IsSoundStack}
use Rattle.ovl_lookup.specs.Words.{over, top_layer, lower_layers}
use Rattle.ovl_check.specs.declared.findings.Finding.{Finding}
use Rattle.ovl_check.specs.Codes.{is_fault, is_layer_fault, is_blob_fault}
use Rattle.ovl_blobs.specs.Blobs.{BlobView}
use Rattle.ovl_check.specs.Findings.{findings}
use Rattle.ovl_check.specs.Laws.{FindingsTellSoundness}
use Rattle.ovl_vacuum.specs.Laws.{VacuumKeepsTree, VacuumKeepsSoundness}
use Rattle.ovl_deref.specs.Deref.{IsDereferenced}
use Rattle.ovl_deref.specs.Laws.{DerefKeepsTree, DerefKeepsSoundness}
use Rattle.ovl_merge.specs.Places.{merge_of}
use Rattle.ovl_merge.specs.MergeDown.{IsMergedDown, merged_top}
use Rattle.ovl_merge.specs.Laws.{MergeKeepsTree, MergedLayerKeepsTree}
use Rattle.ovl_engine.specs.declared.faults.EngineFault.{EngineFault}
use Rattle.ovl_engine.specs.declared.faults.EngineFault.TheVariants.{Layer}
use Rattle.ovl_commands.specs.declared.requests.Answer.{Answer}
use Rattle.ovl_commands.specs.declared.requests.Command.{Command}
use Rattle.ovl_commands.specs.Commands.{stands_alone}
use Rattle.ovl_engine.specs.FsckReports.{is_clean}
use Rattle.ovl_engine.specs.Refusals.{layers_from, under_layer, stated_layers, first_unread}
use Rattle.ovl_engine.specs.Requests.{Request}
use Rattle.ovl_engine.specs.Outcomes.{stack_of, new_manifests, left_by_vacuum}
use Rattle.ovl_engine.specs.Kept.{KeepsTree, KeepsTreeOf, KeepsSoundness, FindsBlobsAlone, FindsNothing, IsQuietOf, IsRequestOf, manifests_after, after}
use Rattle.ovl_engine.specs.MergesDown.{KeepsTreeDown, count_in}

-- ---- a stack without faults is sound

-- no finding of a clean check is a fault, or what only faults are
no_fault : (test : Finding → Bool) → ((one : Finding) → test one ≡ true → is_fault one.code ≡ true) → (found : List Finding) → list_all (λ one. cond (is_fault one.code) 1 0 == 0) found ≡ true → list_any test found ≡ false
no_fault test faulty [] none = refl
no_fault test faulty (one ∷ found) none = by (no_fault test faulty found parts.1) (test one) refl
  where
    parts : ((cond (is_fault one.code) 1 0 == 0) ≡ true) × (list_all (λ one. cond (is_fault one.code) 1 0 == 0) found ≡ true)
    parts = both {a = cond (is_fault one.code) 1 0 == 0} {b = list_all (λ one. cond (is_fault one.code) 1 0 == 0) found} none

    by : list_any test found ≡ false → (b : Bool) → test one ≡ b → (b || list_any test found) ≡ false
    by later false e = later
    by later true e = let bad : false ≡ true = sym (ap (λ b. cond b 1 0 == 0) (faulty one e)) ∙ parts.0 in cc

pub clean-faultless : (found : List Finding) → is_clean found ≡ true → list_any (λ one. is_fault one.code) found ≡ false
clean-faultless found clean = no_fault (λ one. is_fault one.code) (λ one e. e) found (sym (sum_by-zero (λ (one : Finding). cond (is_fault one.code) 1 0) found) ∙ clean)

pub clean-sound : FindingsTellSoundness → (blobs : List BlobView) (stack : StackView) → is_clean (findings blobs stack) ≡ true → IsSoundStack stack
clean-sound tell blobs stack clean =
    tell blobs stack
    ∙ ap not (no_fault (λ one. is_layer_fault one.code) (λ one e. ap (λ b. b || is_blob_fault one.code) e) (findings blobs stack) (sym (sum_by-zero (λ (one : Finding). cond (is_fault one.code) 1 0) (findings blobs stack)) ∙ clean))

-- ---- new layers in place of the topmost

-- the layers of one more manifest in front
in_front : (k : ℕ) (manifest : List ℕ) (more : List (List ℕ)) (top : Entries) (rest : List Entries) → read_layer manifest ≡ Ok top → layers_from (suc k) more ≡ Ok rest → layers_from k (manifest ∷ more) ≡ Ok (top ∷ rest)
in_front k manifest more top rest one others = rw (one, layers_from) (ap (under_layer top) others)

-- a first manifest states a layer where all do
record IsFirst (k : ℕ) (manifest : List ℕ) (more : List (List ℕ)) (layers : List Entries) : Type 0 where
  pub top : Entries
  pub rest : List Entries
  pub one : read_layer manifest ≡ Ok top
  pub others : layers_from (suc k) more ≡ Ok rest
  pub same : layers ≡ top ∷ rest

first_of : (k : ℕ) (manifest : List ℕ) (more : List (List ℕ)) (layers : List Entries) → layers_from k (manifest ∷ more) ≡ Ok layers → IsFirst k manifest more layers
first_of k manifest more layers all = by (read_layer manifest) refl
  where
    below : (top : Entries) → read_layer manifest ≡ Ok top → (r : Result (List Entries) EngineFault) → layers_from (suc k) more ≡ r → under_layer top r ≡ Ok layers → IsFirst k manifest more layers
    below top one (Ok rest) others is = record { top = top; rest = rest; one = one; others = others; same = (let turned : layers ≡ top ∷ rest = cc in turned) }
    below top one (Err fault) others is = let bad : Err fault ≡ Ok layers = is in cc

    by : (r : Result Entries LayerFault) → read_layer manifest ≡ r → IsFirst k manifest more layers
    by (Ok top) one = below top one (layers_from (suc k) more) refl (rw (one, layers_from) at all)
    by (Err fault) one = let bad : Err (Layer k fault) ≡ Ok layers = rw (one, layers_from) at all in cc

-- the layers of the last manifests, counted from another index
of_last : (j n k : ℕ) (manifests : List (List ℕ)) (layers : List Entries) → layers_from k manifests ≡ Ok layers → layers_from j (drop n manifests) ≡ Ok (drop n layers)
of_last j zero k [] layers all = all
of_last j (suc n) k [] layers all =
    let none : [] ≡ layers = cc in
    ap (λ (ls : List Entries). Ok (drop (suc n) ls)) none
of_last j zero k (manifest ∷ more) layers all =
    let h = first_of k manifest more layers all in
    in_front j manifest more h.top h.rest h.one (of_last (suc j) zero (suc k) more h.rest h.others) ∙ ap Ok (sym h.same)
of_last j (suc n) k (manifest ∷ more) layers all =
    let h = first_of k manifest more layers all in
    of_last j n (suc k) more h.rest h.others ∙ ap (λ (ls : List Entries). Ok (drop (suc n) ls)) (sym h.same)

-- what a manifest of a layer is read as
abbrev stated_as : Entries → Result Entries LayerFault
stated_as layer = Ok layer

-- new manifests in front of others
of_new : (k : ℕ) (texts : List (List ℕ)) (new : List Entries) (others : List (List ℕ)) (rest : List Entries) → map read_layer texts ≡ map stated_as new
    → ((j : ℕ) → layers_from j others ≡ Ok rest) → layers_from k (texts ++ others) ≡ Ok (new ++ rest)
of_new k [] [] others rest reads below = below k
of_new k [] (layer ∷ new) others rest reads below = let bad : [] ≡ stated_as layer ∷ map stated_as new = reads in cc
of_new k (text ∷ texts) [] others rest reads below = let bad : read_layer text ∷ map read_layer texts ≡ [] = reads in cc
of_new k (text ∷ texts) (layer ∷ new) others rest reads below =
    let each : read_layer text ∷ map read_layer texts ≡ stated_as layer ∷ map stated_as new = reads in
    let one : read_layer text ≡ stated_as layer = cc in
    let more : map read_layer texts ≡ map stated_as new = cc in
    in_front k text (texts ++ others) layer (new ++ rest) one (of_new (suc k) texts new others rest more below)

-- layers over data-only ones, and a stack with new layers in place of this many of the topmost, and of as many
abbrev under : List Entries → List Entries → StackView
under data_only layers = record { layers = layers; data_only = data_only }

abbrev pub renewed_from : ℕ → List Entries → StackView → StackView
renewed_from d new stack = record stack { layers = new ++ drop d stack.layers }

abbrev renewed : List Entries → StackView → StackView
renewed new stack = renewed_from (length new) new stack

-- a list of which the last ones are data-only
split_here : (layers data_only : List Entries) (bottom : ℕ) → length (layers ++ data_only) - bottom ≡ length layers → stack_with (layers ++ data_only) bottom ≡ under data_only layers
split_here layers data_only bottom count =
    ap (λ (n : ℕ). under (drop n (layers ++ data_only)) (take n (layers ++ data_only))) count
    ∙ (λ j. under (drop-append_seam layers data_only j) (take-append_seam layers data_only j))

-- new layers in front of such a list, in place of at least as many, leave the data-only ones what they are
module _ (new layers : List Entries) (bottom d : ℕ) (few : length new ≤ d) (fits : d ≤ length layers - bottom) where
  abbrev ordinary : List Entries
  ordinary = take (length layers - bottom) layers

  abbrev data_only : List Entries
  data_only = drop (length layers - bottom) layers

  abbrev front : List Entries
  front = new ++ drop d ordinary

  number : length ordinary ≡ length layers - bottom
  number = omega (arith, length-take (length layers - bottom) layers)

  parts : new ++ drop d layers ≡ front ++ data_only
  parts =
      ap (λ (ls : List Entries). new ++ drop d ls) (sym (take-append-drop (length layers - bottom) layers))
      ∙ (ap (λ (ls : List Entries). new ++ ls) (drop-append-le d ordinary data_only (omega (arith, fits, number)))
      ∙ sym (append_assoc new (drop d ordinary) data_only))

  count : length (front ++ data_only) - bottom ≡ length front
  count =
      omega (
        arith,
        few,
        fits,
        number,
        length-append front data_only,
        length-append new (drop d ordinary),
        length-drop d ordinary,
        length-drop (length layers - bottom) layers,
      )

  with_new : stack_with (new ++ drop d layers) bottom ≡ renewed_from d new (stack_with layers bottom)
  with_new = ap (λ (ls : List Entries). stack_with ls bottom) parts ∙ split_here front data_only bottom count

-- manifests that are read have layers
all_stated : (manifests : List (List ℕ)) → first_unread manifests ≡ None → layers_from 0 manifests ≡ Ok (stated_layers manifests)
all_stated manifests read = by (layers_from 0 manifests) refl
  where
    by : (r : Result (List Entries) EngineFault) → layers_from 0 manifests ≡ r → layers_from 0 manifests ≡ Ok (stated_layers manifests)
    by (Ok layers) e = e ∙ ap Ok (sym (rw (e, stated_layers) refl))
    by (Err fault) e = let bad : Some fault ≡ None = rw (e, first_unread) at read in cc

module _ (answer : Answer) (new : List Entries) (stack : StackView) (reads : map read_layer (new_manifests answer) ≡ map stated_as new) (few : length new ≤ length stack.layers) (request : Request) (others : stands_alone request.what ≡ false) (of : IsRequestOf stack request) where
  abbrev layers : List Entries
  layers = stated_layers request.manifests

  new_number : length (new_manifests answer) ≡ length new
  new_number =
      sym (length-map (new_manifests answer) read_layer)
      ∙ (ap length reads ∙ length-map new stated_as)

  after_read : layers_from 0 (manifests_after request.what request.manifests answer) ≡ Ok (new ++ drop (length new) layers)
  after_read =
      ap (λ b. layers_from 0 (new_manifests answer ++ cond b [] (drop (length (new_manifests answer)) request.manifests))) others
      ∙ of_new 0 (new_manifests answer) new (drop (length (new_manifests answer)) request.manifests) (drop (length new) layers) reads
      (λ j. of_last j (length (new_manifests answer)) 0 request.manifests layers (all_stated request.manifests of.read) ∙ ap (λ (n : ℕ). Ok (drop n layers)) new_number)

  after_stated : stated_layers (manifests_after request.what request.manifests answer) ≡ new ++ drop (length new) layers
  after_stated = rw (after_read, stated_layers) refl

  few_stated : length new ≤ length layers - request.bottom
  few_stated = omega (arith, few, ap (λ (s : StackView). length s.layers) of.same, length-take (length layers - request.bottom) layers)

  stack_after : stack_of (after request answer) ≡ renewed new stack
  stack_after =
      (λ j. stack_with (after_stated j) (cond (others j) 0 request.bottom))
      ∙ (with_new new layers request.bottom (length new) (omega arith) few_stated
      ∙ ap (renewed new) (sym of.same))

pub keeps_tree : (answer : Answer) (new : List Entries) (stack : StackView) → map read_layer (new_manifests answer) ≡ map stated_as new → length new ≤ length stack.layers
    → ((path : PathNames) → look (renewed new stack) path ≡ look stack path) → (what : Command) → stands_alone what ≡ false → KeepsTreeOf what stack answer
keeps_tree answer new stack reads few same what others request asked of = record {
  read = rw (after_read answer new stack reads few request (ap stands_alone asked ∙ others) of, first_unread) refl;
  same = λ path.
      ap (λ (s : StackView). look s path) (stack_after answer new stack reads few request (ap stands_alone asked ∙ others) of)
      ∙ (same path ∙ ap (λ (s : StackView). look s path) of.same);
}

pub keeps_soundness : (answer : Answer) (new : List Entries) (stack : StackView) → map read_layer (new_manifests answer) ≡ map stated_as new → length new ≤ length stack.layers
    → IsSoundStack (renewed new stack) → (what : Command) → stands_alone what ≡ false → KeepsSoundness what stack answer
keeps_soundness answer new stack reads few sound what others request asked of =
    subst IsSoundStack (sym (stack_after answer new stack reads few request (ap stands_alone asked ∙ others) of)) sound

-- ---- new layers in place of more

module _ (answer : Answer) (new : List Entries) (stack : StackView) (reads : map read_layer (new_manifests answer) ≡ map stated_as new) (d : ℕ) (few : length new ≤ d) (fits : d ≤ length stack.layers) (request : Request) (of : IsRequestOf stack request) where
  abbrev given : List Entries
  given = stated_layers request.manifests

  further_read : layers_from 0 (new_manifests answer ++ drop d request.manifests) ≡ Ok (new ++ drop d given)
  further_read =
      of_new 0 (new_manifests answer) new (drop d request.manifests) (drop d given) reads
      (λ j. of_last j d 0 request.manifests given (all_stated request.manifests of.read))

  further_stated : stated_layers (new_manifests answer ++ drop d request.manifests) ≡ new ++ drop d given
  further_stated = rw (further_read, stated_layers) refl

  further_stack : stack_with (stated_layers (new_manifests answer ++ drop d request.manifests)) request.bottom ≡ renewed_from d new stack
  further_stack =
      ap (λ (ls : List Entries). stack_with ls request.bottom) further_stated
      ∙ (with_new new given request.bottom d few
      (omega (arith, fits, ap (λ (s : StackView). length s.layers) of.same, length-take (length given - request.bottom) given))
      ∙ ap (renewed_from d new) (sym of.same))

  keeps_further : ((path : PathNames) → look (renewed_from d new stack) path ≡ look stack path)
      → KeepsTree request (record request { manifests = new_manifests answer ++ drop d request.manifests })
  keeps_further same = record {
    read = rw (further_read, first_unread) refl;
    same = λ path.
        ap (λ (s : StackView). look s path) further_stack
        ∙ (same path ∙ ap (λ (s : StackView). look s path) of.same);
  }

pub keeps_down : (left : ℕ) (answer : Answer) (new : List Entries) (stack : StackView) → map read_layer (new_manifests answer) ≡ map stated_as new
    → 0 < left → length new ≤ length stack.layers + 1 - left
    → ((path : PathNames) → look (renewed_from (length stack.layers + 1 - left) new stack) path ≡ look stack path) → KeepsTreeDown left stack answer
keeps_down left answer new stack reads some few same request of =
    let number : length stack.layers ≡ count_in request = ap (λ (s : StackView). length s.layers) of.same in
    keeps_further answer new stack reads (count_in request + 1 - left) (omega (arith, few, number)) (omega (arith, some, number)) request of
    (subst (λ (n : ℕ). (path : PathNames) → look (renewed_from (n + 1 - left) new stack) path ≡ look stack path) number same)

-- ---- new layers in place of all

module _ (answer : Answer) (new : List Entries) (reads : map read_layer (new_manifests answer) ≡ map stated_as new) (request : Request) (alone : stands_alone request.what ≡ true) where
  whole_read : layers_from 0 (manifests_after request.what request.manifests answer) ≡ Ok new
  whole_read =
      ap (λ b. layers_from 0 (new_manifests answer ++ cond b [] (drop (length (new_manifests answer)) request.manifests))) alone
      ∙ (of_new 0 (new_manifests answer) new [] [] reads (λ j. refl)
      ∙ ap Ok (append-nil new))

  whole_stated : stated_layers (manifests_after request.what request.manifests answer) ≡ new
  whole_stated = rw (whole_read, stated_layers) refl

  whole_after : stack_of (after request answer) ≡ under [] new
  whole_after =
      (λ j. stack_with (whole_stated j) (cond (alone j) 0 request.bottom))
      ∙ (ap (λ (ls : List Entries). stack_with ls 0) (sym (append-nil new)) ∙ split_here new [] 0 (omega (arith, length-append new [])))

pub keeps_whole_tree : (answer : Answer) (new : List Entries) (stack : StackView) → map read_layer (new_manifests answer) ≡ map stated_as new
    → ((path : PathNames) → look (under [] new) path ≡ look stack path) → (what : Command) → stands_alone what ≡ true → KeepsTreeOf what stack answer
keeps_whole_tree answer new stack reads same what alone request asked of = record {
  read = rw (whole_read answer new reads request (ap stands_alone asked ∙ alone), first_unread) refl;
  same = λ path.
      ap (λ (s : StackView). look s path) (whole_after answer new reads request (ap stands_alone asked ∙ alone))
      ∙ (same path ∙ ap (λ (s : StackView). look s path) of.same);
}

pub whole_soundness : (answer : Answer) (new : List Entries) (stack : StackView) → map read_layer (new_manifests answer) ≡ map stated_as new
    → IsSoundStack (under [] new) → (what : Command) → stands_alone what ≡ true → KeepsSoundness what stack answer
whole_soundness answer new stack reads sound what alone request asked of =
    subst IsSoundStack (sym (whole_after answer new reads request (ap stands_alone asked ∙ alone))) sound

pub whole_quiet : (answer : Answer) (new : List Entries) (stack : StackView) → map read_layer (new_manifests answer) ≡ map stated_as new
    → FindsBlobsAlone (under [] new) → FindsNothing stack (under [] new) → (what : Command) → stands_alone what ≡ true → IsQuietOf what stack answer
whole_quiet answer new stack reads quiet nothing what alone request asked of =
    let same = sym (whole_after answer new reads request (ap stands_alone asked ∙ alone)) in
    record {
      blobs_alone = subst FindsBlobsAlone same quiet;
      nothing = subst (λ (s : StackView). FindsNothing s (stack_of (after request answer))) of.same (subst (FindsNothing stack) same nothing);
    }

-- ---- the laws of vacuum, deref and merge, of a stack's lists of layers

module _ (data_only : List Entries) where
  vacuum_same_of : VacuumKeepsTree → (layers : List Entries) → 0 < length layers → All IsLayer layers → (path : PathNames)
      → look (under data_only (left_by_vacuum (under data_only layers) ∷ drop 1 layers)) path ≡ look (under data_only layers) path
  vacuum_same_of law [] some each path = absurd (omega (arith, some))
  vacuum_same_of law (top ∷ rest) some each path = law top (under data_only rest) (All-head IsLayer top rest each) (All-tail IsLayer top rest each) path

  vacuum_sound_of : VacuumKeepsSoundness → (layers : List Entries) → 0 < length layers → All IsLayer layers → IsSoundStack (under data_only layers)
      → IsSoundStack (under data_only (left_by_vacuum (under data_only layers) ∷ drop 1 layers))
  vacuum_sound_of law [] some each sound = absurd (omega (arith, some))
  vacuum_sound_of law (top ∷ rest) some each sound = law top (under data_only rest) (All-head IsLayer top rest each) (All-tail IsLayer top rest each) sound

  abbrev IsNew : List Entries → Entries → Type 0
  IsNew layers new = IsDereferenced new (top_layer (under data_only layers)) (lower_layers (under data_only layers))

  deref_same_of : DerefKeepsTree → (layers : List Entries) → 0 < length layers → All IsLayer layers → IsSoundStack (under data_only layers) → (new : Entries) → IsLayer new → IsNew layers new
      → (path : PathNames) → look (under data_only (new ∷ drop 1 layers)) path ≡ look (under data_only layers) path
  deref_same_of law [] some each sound new is_layer is path = absurd (omega (arith, some))
  deref_same_of law (top ∷ rest) some each sound new is_layer is path =
      law top (under data_only rest) (All-head IsLayer top rest each) (All-tail IsLayer top rest each) sound new is_layer is path

  deref_sound_of : DerefKeepsSoundness → (layers : List Entries) → 0 < length layers → All IsLayer layers → IsSoundStack (under data_only layers) → (new : Entries) → IsLayer new → IsNew layers new
      → IsSoundStack (under data_only (new ∷ drop 1 layers))
  deref_sound_of law [] some each sound new is_layer is = absurd (omega (arith, some))
  deref_sound_of law (top ∷ rest) some each sound new is_layer is =
      law top (under data_only rest) (All-head IsLayer top rest each) (All-tail IsLayer top rest each) sound new is_layer is

  merge_same_of : MergeKeepsTree → (layers : List Entries) → 1 < length layers → All IsLayer layers → IsSoundStack (under data_only layers) → (lower : Entries) → IsLayer lower
      → IsMergedDown (merge_of (under data_only layers)) lower
      → (path : PathNames) → look (under data_only (merged_top (merge_of (under data_only layers)) ∷ lower ∷ drop 2 layers)) path ≡ look (under data_only layers) path
  merge_same_of law [] several each sound lower is_layer is path = absurd (omega (arith, several))
  merge_same_of law (top ∷ []) several each sound lower is_layer is path = absurd (omega (arith, several))
  merge_same_of law (top ∷ next ∷ rest) several each sound lower is_layer is path =
      law (merge_of (under data_only (top ∷ next ∷ rest))) lower each sound is_layer is path

  merged_same_of : MergedLayerKeepsTree → (layers : List Entries) → 1 < length layers → All IsLayer layers → IsSoundStack (under data_only layers) → (lower : Entries) → IsLayer lower
      → IsMergedDown (merge_of (under data_only layers)) lower
      → (path : PathNames) → look (under data_only (lower ∷ drop 2 layers)) path ≡ look (under data_only layers) path
  merged_same_of law [] several each sound lower is_layer is path = absurd (omega (arith, several))
  merged_same_of law (top ∷ []) several each sound lower is_layer is path = absurd (omega (arith, several))
  merged_same_of law (top ∷ next ∷ rest) several each sound lower is_layer is path =
      law (merge_of (under data_only (top ∷ next ∷ rest))) lower each sound is_layer is path

module _ (stack : StackView) (each : All IsLayer stack.layers) where
  pub vacuum_same : VacuumKeepsTree → 0 < length stack.layers → (path : PathNames) → look (renewed (left_by_vacuum stack ∷ []) stack) path ≡ look stack path
  vacuum_same law some path = vacuum_same_of stack.data_only law stack.layers some each path

  pub vacuum_sound : VacuumKeepsSoundness → 0 < length stack.layers → IsSoundStack stack → IsSoundStack (renewed (left_by_vacuum stack ∷ []) stack)
  vacuum_sound law some sound = vacuum_sound_of stack.data_only law stack.layers some each sound

  module _ (new : Entries) (is_layer : IsLayer new) (is : IsDereferenced new (top_layer stack) (lower_layers stack)) where
    pub deref_same : DerefKeepsTree → 0 < length stack.layers → IsSoundStack stack → (path : PathNames) → look (renewed (new ∷ []) stack) path ≡ look stack path
    deref_same law some sound path = deref_same_of stack.data_only law stack.layers some each sound new is_layer is path

    pub deref_sound : DerefKeepsSoundness → 0 < length stack.layers → IsSoundStack stack → IsSoundStack (renewed (new ∷ []) stack)
    deref_sound law some sound = deref_sound_of stack.data_only law stack.layers some each sound new is_layer is

  pub merge_same : MergeKeepsTree → 1 < length stack.layers → IsSoundStack stack → (lower : Entries) → IsLayer lower → IsMergedDown (merge_of stack) lower
      → (path : PathNames) → look (renewed (merged_top (merge_of stack) ∷ lower ∷ []) stack) path ≡ look stack path
  merge_same law several sound lower is_layer is path = merge_same_of stack.data_only law stack.layers several each sound lower is_layer is path

  pub merged_same : MergedLayerKeepsTree → 1 < length stack.layers → IsSoundStack stack → (lower : Entries) → IsLayer lower → IsMergedDown (merge_of stack) lower
      → (path : PathNames) → look (over lower (from_layer 2 stack)) path ≡ look stack path
  merged_same law several sound lower is_layer is path = merged_same_of stack.data_only law stack.layers several each sound lower is_layer is path
