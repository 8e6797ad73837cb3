-- What is reported where an answer isn't written whole.
use Rattle.std.proofs.Common.{◌≡◌, ◌∙◌, ◌<◌, ◌≤◌, ℕ, List, [], ◌∷◌, ◌++◌, Option, Result, Ok, Err, MatchResult, length, map, take, sym, subst, inl, inr, arith, All, Contains, String, Vec, Global, string_bytes}
use Rattle.std.specs.Prelude.{◌⊎◌}
use Rattle.std.specs.Io.KnownBytes.{Appends, Keeps}
use Rattle.std.proofs.lemmas.List.{length-map}
use Rattle.std.proofs.lemmas.List.Elements.{All-contains}
use Rattle.ovl_commands.specs.declared.requests.Answer.{Answer}
use Rattle.ovl_program.specs.declared.faults.ProgramFault.{ProgramFault}
use Rattle.ovl_program.specs.declared.faults.ProgramFault.TheVariants.{Unwritten, Output}
use Rattle.ovl_program.specs.declared.output.hand_out.OutFault.{OutFault}
use Rattle.ovl_engine.specs.Outcomes.{new_manifests}
use Rattle.ovl_program.specs.HandedOut.{AreWhole, IsCutAt}
use Rattle.ovl_program.specs.LayerFiles.{IsLayerFile, IsLeftOut, IsUnfinished}
use Rattle.ovl_program.specs.Status.{ending_of, ending_status}
use Rattle.ovl_program.proofs.HandedParts.{cut_by, whole_at_last}

pub unfinished : (folder : List ℕ) (answer : Answer) (before after : Option (List ℕ)) (paths : List (String Global)) (fault : OutFault) (told : ProgramFault)
    → length paths ≡ length answer.layers.items → All (λ path. IsLayerFile folder (length answer.layers.items) (string_bytes path)) paths
    → (fault.part < length paths → (path : String Global) × ((told ≡ Unwritten path) × Contains paths path))
    → (length paths ≤ fault.part → told ≡ Output)
    → IsLeftOut answer before after fault → IsUnfinished folder answer before after told
unfinished folder answer before after paths fault told each named layer report (inl last) =
    let is : told ≡ Output = report (omega (arith, each, last.0)) in
    subst (IsUnfinished folder answer before after) (sym is) (fault.written, last.1)
unfinished folder answer before after paths fault told each named layer report (inr kept) =
    let is = layer (omega (arith, each, kept.0)) in
    subst (IsUnfinished folder answer before after) (sym is.1.0) (All-contains (λ path. IsLayerFile folder (length answer.layers.items) (string_bytes path)) paths is.0 named is.1.1, kept.1)

-- what is handed out to the files of the new layers and to a writer
pub handed_out : {F : Type 0} (view : F → Option (List ℕ)) (answer : Answer) (files news : List F) (before after : Option (List ℕ)) (result : Result ℕ OutFault)
    → length files ≡ length answer.layers.items → length news ≡ length files
    → MatchResult result
    (λ status. (status ≡ ending_status (ending_of answer.clean)) × AreWhole (map view files ++ before ∷ []) (map view news ++ after ∷ []) (new_manifests answer ++ answer.report.items ∷ []))
    (λ fault. IsCutAt fault.part fault.written (map view files ++ before ∷ []) (map view news ++ after ∷ []) (new_manifests answer ++ answer.report.items ∷ []))
    → MatchResult result (λ _. Appends before after answer.report.items) (λ fault. IsLeftOut answer before after fault)
handed_out view answer files news before after result each same gone = by result gone
  where
    manifests : length (new_manifests answer) ≡ length answer.layers.items
    manifests = length-map answer.layers.items (λ (manifest : Vec ℕ Global). manifest.items)

    old : length (map view files) ≡ length (new_manifests answer)
    old = length-map files view ∙ (each ∙ sym manifests)

    new : length (map view news) ≡ length (new_manifests answer)
    new = length-map news view ∙ (same ∙ (each ∙ sym manifests))

    by : (result : Result ℕ OutFault)
        → MatchResult result
        (λ status. (status ≡ ending_status (ending_of answer.clean)) × AreWhole (map view files ++ before ∷ []) (map view news ++ after ∷ []) (new_manifests answer ++ answer.report.items ∷ []))
        (λ fault. IsCutAt fault.part fault.written (map view files ++ before ∷ []) (map view news ++ after ∷ []) (new_manifests answer ++ answer.report.items ∷ []))
        → MatchResult result (λ _. Appends before after answer.report.items) (λ fault. IsLeftOut answer before after fault)
    by (Ok status) gone = whole_at_last (map view files) (map view news) (new_manifests answer) before after answer.report.items old new gone.1
    by (Err fault) cut =
        subst (λ (n : ℕ). ((fault.part ≡ n) × ((fault.written < length answer.report.items) × Appends before after (take fault.written answer.report.items))) ⊎ ((fault.part < n) × Keeps before after))
        manifests
        (cut_by fault.part fault.written (map view files) (map view news) (new_manifests answer) before after answer.report.items old new cut)
