-- What is printed, in bytes, with a line feed after each line.
use Rattle.std.specs.Prelude.{ℕ, List, [], ◌∷◌, ◌++◌, length, take, Ok, Err, Result, codes, decimal}
use Rattle.std.specs.List.{flat_map}
use Rattle.faults.specs.Faults.{collection_refusal, listing_refusal}
use Rattle.faults.specs.Lines.{refusal_line, sheet_line}
use Rattle.candidates.specs.declared.records.Candidate.{Candidate}
use Rattle.runs.specs.Law.{found}
use Rattle.runs.specs.declared.CallFault.{CallFault}
use Rattle.runs.specs.declared.CallFault.TheVariants.{Collection, Sheet, Listing}
use Rattle.console.specs.declared.Listed.{Listed}

abbrev pub ended : List ℕ → List ℕ
ended line = line ++ (10 ∷ [])

-- a space before each number
abbrev pub spaced : List ℕ → List ℕ
spaced xs = flat_map (λ x. codes " " ++ decimal x) xs

-- 'distance 3 message 1 1 word 2 3 4 5 6 0', with k message numbers and n values
abbrev pub line_of : ℕ → (message word : List ℕ) → List ℕ
line_of distance message word = codes "distance " ++ (decimal distance ++ (codes " message" ++ (spaced message ++ (codes " word" ++ spaced word))))

abbrev pub candidate_line : ℕ → ℕ → Candidate → List ℕ
candidate_line k n c = line_of c.distance (take k c.message) (take n c.word)

abbrev pub candidate_lines : ℕ → ℕ → List Candidate → List ℕ
candidate_lines k n cs = flat_map (λ c. ended (candidate_line k n c)) cs

-- 'candidates 2', and a line for each candidate
abbrev pub list_text : ℕ → ℕ → List Candidate → List ℕ
list_text k n cs = ended (codes "candidates " ++ decimal (length cs)) ++ candidate_lines k n cs

abbrev pub listed_text : Listed → List ℕ
listed_text x = list_text x.threshold x.places (found x.found)

abbrev pub report_text : Result Listed CallFault → List ℕ
report_text (Ok x) = listed_text x
report_text (Err (Collection e)) = ended (refusal_line (collection_refusal e))
report_text (Err (Sheet e)) = ended (sheet_line e)
report_text (Err (Listing e)) = ended (refusal_line (listing_refusal e))
