-- Layers that are read one after another.
use Rattle.std.proofs.Common.{◌≡◌, ℕ, zero, suc, ◌+◌, ◌*◌, ◌<◌, ◌≤◌, List, [], ◌∷◌, ◌++◌, None, Result, Ok, Err, refl, sym, ap, ◌∙◌, length, take, drop, map, arith}
use native.Mathlib.Nat.{zero-mul}
use Rattle.std.specs.Iterator.{Yields}
use Rattle.std.specs.Vec.Iter.{into_iter_items, into_iter_steps}
use Rattle.std.specs.declared.vec.IntoIter.{IntoIter}
use Rattle.std.proofs.lemmas.List.{take-append-drop, map-append, length-map}
use Rattle.ovl_layer.specs.Layers.{Entries}
use Rattle.ovl_manifest.specs.Manifest.{read_layer}
use Rattle.ovl_layer.specs.Entries.{IsFaultOf}
use Rattle.ovl_layer.specs.declared.faults.LayerFault.{LayerFault}
use Rattle.ovl_layer.specs.declared.faults.LayerFault.TheVariants.{NotJson, Shape, Version, Count, Entry, Order, NoParent, Root, Escaped, Memory as UnreadMemory}
use Rattle.ovl_engine.specs.declared.faults.EngineFault.{EngineFault}
use Rattle.ovl_engine.specs.declared.faults.EngineFault.TheVariants.{Workers, Layers, Layer, BlobOrder, BlobSize, NoLower, Faulty, LimitOut, Run, Memory, DataLayers}
use Rattle.ovl_engine.specs.Refusals.{layers_from, under_layer, unread_layer, stated_layers, first_unread, IsUnreadLayer}

-- layers on top of what others give
abbrev over : List Entries → Result (List Entries) EngineFault → Result (List Entries) EngineFault
over layers (Ok rest) = Ok (layers ++ rest)
over layers (Err fault) = Err fault

over_none : (read : Result (List Entries) EngineFault) → read ≡ over [] read
over_none (Ok rest) = refl
over_none (Err fault) = refl

under_over : (top : Entries) (layers : List Entries) (read : Result (List Entries) EngineFault) → under_layer top (over layers read) ≡ over (top ∷ layers) read
under_over top layers (Ok rest) = refl
under_over top layers (Err fault) = refl

-- manifests after others that are read
behind : (k : ℕ) (read more : List (List ℕ)) (layers : List Entries) → layers_from k read ≡ Ok layers → layers_from k (read ++ more) ≡ over layers (layers_from (k + length read) more)
behind k [] more layers all =
    let none : [] ≡ layers = cc in
    over_none (layers_from k more)
    ∙ (ap (λ (n : ℕ). over [] (layers_from n more)) (at_first k)
    ∙ ap (λ (front : List Entries). over front (layers_from (k + zero) more)) none)
  where
    at_first : (k : ℕ) → k ≡ k + zero
    at_first k = omega arith
behind k (first ∷ read) more layers all = by (λ rest. behind (suc k) read more rest) (read_layer first) refl
  where
    next : (k n : ℕ) → suc k + n ≡ k + suc n
    next k n = omega arith

    below : ((rest : List Entries) → layers_from (suc k) read ≡ Ok rest → layers_from (suc k) (read ++ more) ≡ over rest (layers_from (suc k + length read) more)) → (top : Entries) (r : Result (List Entries) EngineFault) → layers_from (suc k) read ≡ r → under_layer top r ≡ Ok layers → under_layer top (layers_from (suc k) (read ++ more)) ≡ over layers (layers_from (k + suc (length read)) more)
    below lower top (Ok rest) e is =
        let same : top ∷ rest ≡ layers = cc in
        ap (under_layer top) (lower rest e)
        ∙ (under_over top rest (layers_from (suc k + length read) more)
        ∙ (ap (λ (front : List Entries). over front (layers_from (suc k + length read) more)) same
        ∙ ap (λ (n : ℕ). over layers (layers_from n more)) (next k (length read))))
    below lower top (Err fault) e is = let bad : Err fault ≡ Ok layers = is in cc

    by : ((rest : List Entries) → layers_from (suc k) read ≡ Ok rest → layers_from (suc k) (read ++ more) ≡ over rest (layers_from (suc k + length read) more)) → (r : Result Entries LayerFault) → read_layer first ≡ r → layers_from k ((first ∷ read) ++ more) ≡ over layers (layers_from (k + suc (length read)) more)
    by lower (Ok top) e = rw (e, layers_from) (below lower top (layers_from (suc k) read) refl (rw (e, layers_from) at all))
    by lower (Err fault) e = let bad : Err (Layer k fault) ≡ Ok layers = rw (e, layers_from) at all in cc

-- the fault of manifests is that of longer ones
before : (k : ℕ) (read more : List (List ℕ)) (fault : EngineFault) → layers_from k read ≡ Err fault → layers_from k (read ++ more) ≡ Err fault
before k [] more fault fails = let bad : Ok [] ≡ Err fault = fails in cc
before k (first ∷ read) more fault fails = by (before (suc k) read more) (read_layer first) refl
  where
    below : ((fault : EngineFault) → layers_from (suc k) read ≡ Err fault → layers_from (suc k) (read ++ more) ≡ Err fault) → (top : Entries) (r : Result (List Entries) EngineFault) → layers_from (suc k) read ≡ r → under_layer top r ≡ Err fault → under_layer top (layers_from (suc k) (read ++ more)) ≡ Err fault
    below lower top (Ok rest) e is = let bad : Ok (top ∷ rest) ≡ Err fault = is in cc
    below lower top (Err other) e is = ap (under_layer top) (lower other e) ∙ is

    by : ((fault : EngineFault) → layers_from (suc k) read ≡ Err fault → layers_from (suc k) (read ++ more) ≡ Err fault) → (r : Result Entries LayerFault) → read_layer first ≡ r → layers_from k ((first ∷ read) ++ more) ≡ Err fault
    by lower (Ok top) e = rw (e, layers_from) (below lower top (layers_from (suc k) read) refl (rw (e, layers_from) at fails))
    by lower (Err other) e = rw (e, layers_from) (rw (e, layers_from) at fails)

-- the layers of one more manifest
one_more : (k : ℕ) (read : List (List ℕ)) (layers : List Entries) (manifest : List ℕ) (layer : Entries) → layers_from k read ≡ Ok layers → read_layer manifest ≡ Ok layer → layers_from k (read ++ manifest ∷ []) ≡ Ok (layers ++ layer ∷ [])
one_more k read layers manifest layer all one = behind k read (manifest ∷ []) layers all ∙ rw (one, layers_from) refl

-- a manifest that isn't read, after others that are
unread : (k : ℕ) (read : List (List ℕ)) (layers : List Entries) (manifest : List ℕ) (more : List (List ℕ)) (fault : LayerFault) → layers_from k read ≡ Ok layers → read_layer manifest ≡ Err fault → layers_from k (read ++ manifest ∷ more) ≡ Err (Layer (k + length read) fault)
unread k read layers manifest more fault all is = behind k read (manifest ∷ more) layers all ∙ rw (is, layers_from) refl

-- what is reported of a layer that isn't read
pub told : (index : ℕ) (one : Result Entries LayerFault) (all : Result (List Entries) EngineFault) → ((fault : LayerFault) → one ≡ Err fault → all ≡ Err (Layer index fault)) → (fault : LayerFault) → IsFaultOf one fault → IsUnreadLayer all (unread_layer index fault)
told index one all fails NotJson is = fails NotJson is
told index one all fails Shape is = fails Shape is
told index one all fails Version is = fails Version is
told index one all fails Count is = fails Count is
told index one all fails (Entry n) is = fails (Entry n) is
told index one all fails (Order n) is = fails (Order n) is
told index one all fails (NoParent n) is = fails (NoParent n) is
told index one all fails Root is = fails Root is
told index one all fails (Escaped n) is = fails (Escaped n) is
told index one all fails UnreadMemory is = tt

-- manifests that are read have no fault, and state what is read
pub all_read : (manifests : List (List ℕ)) (layers : List Entries) → layers_from 0 manifests ≡ Ok layers → first_unread manifests ≡ None
all_read manifests layers is = rw (is, first_unread) refl

pub all_stated : (manifests : List (List ℕ)) (layers : List Entries) → layers_from 0 manifests ≡ Ok layers → stated_layers manifests ≡ layers
all_stated manifests layers is = rw (is, stated_layers) refl

counted : (k : ℕ) (manifests : List (List ℕ)) (layers : List Entries) → layers_from k manifests ≡ Ok layers → length layers ≡ length manifests
counted k [] layers is = let none : [] ≡ layers = cc in ap length (sym none)
counted k (first ∷ manifests) layers is = by (counted (suc k) manifests) (read_layer first) refl
  where
    below : ((rest : List Entries) → layers_from (suc k) manifests ≡ Ok rest → length rest ≡ length manifests) → (top : Entries) (r : Result (List Entries) EngineFault) → layers_from (suc k) manifests ≡ r → under_layer top r ≡ Ok layers → length layers ≡ suc (length manifests)
    below more top (Ok rest) e is_ok = let same : top ∷ rest ≡ layers = cc in ap length (sym same) ∙ ap suc (more rest e)
    below more top (Err fault) e is_ok = let bad : Err fault ≡ Ok layers = is_ok in cc

    by : ((rest : List Entries) → layers_from (suc k) manifests ≡ Ok rest → length rest ≡ length manifests) → (r : Result Entries LayerFault) → read_layer first ≡ r → length layers ≡ suc (length manifests)
    by more (Ok top) e = below more top (layers_from (suc k) manifests) refl (rw (e, layers_from) at is)
    by more (Err fault) e = let bad : Err (Layer k fault) ≡ Ok layers = rw (e, layers_from) at is in cc

pub counted_by : {X : Type 0} (k : ℕ) (bytes : X → List ℕ) (manifests : List X) (layers : List Entries) → layers_from k (map bytes manifests) ≡ Ok layers → length layers ≡ length manifests
counted_by k bytes manifests layers is = counted k (map bytes manifests) layers is ∙ length-map manifests bytes

-- a vector's items, of which some were taken, and one more
pub taken : {X Z : Type 0} (s : IntoIter X Z) (read : List X) (t : IntoIter X Z) → Yields into_iter_steps s read t → into_iter_items s ≡ read ++ into_iter_items t
taken s [] t yields = ap into_iter_items yields
taken s (x ∷ read) t yields = yields.1.0 ∙ ap (λ rest. x ∷ rest) (taken yields.0 read t yields.2)

-- things that have bytes, and one more after them
module _ {X : Type 0} (k : ℕ) (bytes : X → List ℕ) (read : List X) (x : X) (layers : List Entries) (so_far : layers_from k (map bytes read) ≡ Ok layers) where
  pub further : (layer : Entries) → read_layer (bytes x) ≡ Ok layer → layers_from k (map bytes (read ++ x ∷ [])) ≡ Ok (layers ++ layer ∷ [])
  further layer one = ap (layers_from k) (map-append bytes read (x ∷ [])) ∙ one_more k (map bytes read) layers (bytes x) layer so_far one

  pub fails_here : (n : ℕ) → n ≡ length layers → (more : List X) (fault : LayerFault) → read_layer (bytes x) ≡ Err fault → layers_from k (map bytes (read ++ x ∷ more)) ≡ Err (Layer (k + n) fault)
  fails_here n number more fault one =
      ap (layers_from k) (map-append bytes read (x ∷ more))
      ∙ (unread k (map bytes read) layers (bytes x) (map bytes more) fault so_far one
      ∙ ap (λ (m : ℕ). Err (Layer (k + m) fault)) (sym (number ∙ counted k (map bytes read) layers so_far)))

-- what is reported of some manifests is reported of all, where their fault is that of all
told_of_all : (read all : Result (List Entries) EngineFault) → ((fault : EngineFault) → read ≡ Err fault → all ≡ Err fault) → (fault : EngineFault) → IsUnreadLayer read fault → IsUnreadLayer all fault
told_of_all read all fails (Layer index fault) is = fails (Layer index fault) is
told_of_all read all fails Memory is = tt
told_of_all read all fails Workers is = absurd is
told_of_all read all fails Layers is = absurd is
told_of_all read all fails BlobOrder is = absurd is
told_of_all read all fails BlobSize is = absurd is
told_of_all read all fails NoLower is = absurd is
told_of_all read all fails DataLayers is = absurd is
told_of_all read all fails (Faulty report) is = absurd is
told_of_all read all fails LimitOut is = absurd is
told_of_all read all fails (Run fault) is = absurd is

-- things that have bytes, in two parts, the first of n of them
module _ {X : Type 0} (k n : ℕ) (bytes : X → List ℕ) (all front back : List X) (first : front ≡ take n all) (rest : back ≡ drop n all) (len : length front ≡ n) where
  in_parts : layers_from k (map bytes all) ≡ layers_from k (map bytes front ++ map bytes back)
  in_parts =
      ap (λ (ms : List X). layers_from k (map bytes ms)) (sym ((λ j. first j ++ rest j) ∙ take-append-drop n all))
      ∙ ap (layers_from k) (map-append bytes front back)

  pub front_unread : (fault : EngineFault) → IsUnreadLayer (layers_from k (map bytes front)) fault → IsUnreadLayer (layers_from k (map bytes all)) fault
  front_unread =
      told_of_all (layers_from k (map bytes front)) (layers_from k (map bytes all))
      (λ fault fails. in_parts ∙ before k (map bytes front) (map bytes back) fault fails)

  module _ (layers : List Entries) (read : layers_from k (map bytes front) ≡ Ok layers) where
    over_back : layers_from k (map bytes all) ≡ over layers (layers_from (k + n) (map bytes back))
    over_back =
        in_parts
        ∙ (behind k (map bytes front) (map bytes back) layers read
        ∙ ap (λ (m : ℕ). over layers (layers_from (k + m) (map bytes back))) (length-map front bytes ∙ len))

    pub both_read : (more : List Entries) → layers_from (k + n) (map bytes back) ≡ Ok more → layers_from k (map bytes all) ≡ Ok (layers ++ more)
    both_read more is = over_back ∙ ap (over layers) is

    pub back_unread : (fault : EngineFault) → IsUnreadLayer (layers_from (k + n) (map bytes back)) fault → IsUnreadLayer (layers_from k (map bytes all)) fault
    back_unread =
        told_of_all (layers_from (k + n) (map bytes back)) (layers_from k (map bytes all))
        (λ fault fails. over_back ∙ ap (over layers) fails)

-- shares that cover some manifests aren't empty
pub some_share : (size workers count : ℕ) → 0 < count → count ≤ size * workers → 0 < size
some_share zero workers count some covered = omega (arith, zero-mul workers)
some_share (suc size) workers count some covered = omega arith
