-- The contract of a run.
use Rattle.std.specs.Prelude.{IsErrOf, ◌≡◌, ◌↔◌, ◌⊎◌, ℕ, List, Option, Result, IsTrue, IfOk}
use Rattle.std.specs.Io.KnownBytes.{Appends}
use Rattle.wat_show.specs.Streams.{AppendsBeginning, ReadsAll, ReadsOn}
use Rattle.wat_show.specs.declared.error.RunError.{RunError}
use Rattle.wat_show.specs.declared.error.RunError.TheVariants.{Read, Write, Memory}
use Rattle.wat_show.specs.declared.watched.Watched.{Watched}

-- A run returned `result`. It took the reader from r to r', and the writer from w to w'. `remaining`
-- returns the bytes that a reader has left, and `contents` the bytes that a writer holds. `shows bytes
-- out status` holds if the output and the status are right for the bytes.
-- shown: if the run is Ok, all input was read, and the output for the input was written
-- cut_short: if a write failed, a prefix of the output was written
-- unwritten: for any other error, nothing was written
-- read_on: some bytes of the reader were read
-- read, write: the error shows whether a read or a write failed
pub record Runs {R W : Type 0} (remaining : R → Option (List ℕ)) (contents : W → Option (List ℕ))
    (shows : List ℕ → List ℕ → ℕ → Type 0) (result : Result ℕ RunError) (r r' : Watched R)
    (w w' : Watched W) : Type 0 where
  pub shown : IfOk result (λ status. (bytes : List ℕ) × (out : List ℕ) × shows bytes out status
      × ReadsAll (remaining r.inner) (remaining r'.inner) bytes
      × Appends (contents w.inner) (contents w'.inner) out)
  pub cut_short : IsErrOf result Write
      → (bytes : List ℕ) × (out : List ℕ) × (status : ℕ) × shows bytes out status
      × ReadsAll (remaining r.inner) (remaining r'.inner) bytes
      × AppendsBeginning (contents w.inner) (contents w'.inner) out
  pub unwritten : IsErrOf result Read ⊎ IsErrOf result Memory → w' ≡ w
  pub read_on : ReadsOn (remaining r.inner) (remaining r'.inner)
  pub read : IsTrue r'.failed ↔ IsErrOf result Read
  pub write : IsTrue w'.failed ↔ IsErrOf result Write
