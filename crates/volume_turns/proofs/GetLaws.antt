-- A get reads a whole version, however long it is.
use Rattle.std.proofs.Common.{◌≡◌, ◌<◌, ◌≤◌, ◌&&◌, ℕ, zero, suc, true, List, [], ◌∷◌, length, take, drop, Option, Some, None, inl, inr, sym, ◌∙◌, ap, subst, arith}
use Rattle.std.specs.Prelude.{◌⊎◌, ◌==◌, ◌++◌, Contains, IfErr, IsTrue, Result, map, nat_le, slice_index_or}
use Rattle.std.specs.List.{AllByRecursion, list_all}
use Rattle.std.proofs.lemmas.Bool.{and_parts, leb-true}
use Rattle.std.proofs.lemmas.List.{length-take-le, take-append-le, take_all}
use Rattle.fsd_bytes.specs.Keys.{is_key}
use Rattle.fsd_bytes.specs.Names.{is_between}
use Rattle.fsd_bytes.specs.declared.key.Key.{Key}
use Rattle.run_table.specs.RunTable.{are_runs, total}
use Rattle.fsd_formats.specs.declared.entry.Entry.{Entry}
use Rattle.fsd_formats.specs.NamePage.{Content, Free, Interior, Leaf, are_ascending, contents_of, is_entry, least_used, max_keep, max_length, room, sectors_for}
use Rattle.fsd_table.specs.Pages.{entries_of, page_at}
use Rattle.fsd_table.specs.Table.{Visit, visits}
use Rattle.fsd_table.proofs.PageLaws.{at_is_page}
use Rattle.fsd_files.specs.Disk.{Image}
use Rattle.fsd_files.specs.Kept.{IsWhole, range_sectors}
use Rattle.fsd_files.specs.declared.reply.Reply.{Reply}
use Rattle.fsd_texts.specs.declared.command.Command.TheVariants as Word
use Rattle.fsd_texts.specs.declared.fault.Fault.{Fault}
use Rattle.sector_disk.specs.declared.machine.Machine.{Ghosts}
use Rattle.sector_disk.specs.Calls.{OnlyReads}
use Rattle.sector_disk.specs.Machine.{Ledger}
use Rattle.scrub.specs.Telling.{AreOfPage}
use Rattle.fsd_table.specs.Reached.{ReachesPage}
use Rattle.fsd_sound.proofs.VisitLaws.{own_content}
use Rattle.volume_contract.specs.Found.{HasRange}
use Rattle.volume_contract.specs.State.{State, is_worn}
use Rattle.volume_turns.specs.Did.{TellsAnswer}
use Rattle.volume_turns.specs.Reasons.{HasVersion, HasWritten}
use Rattle.volume_turns.specs.Steps.{IsToldOn}
use Rattle.volume_turns.proofs.AnsweringLaws.{worn_first}
use Rattle.volume_turns.proofs.NumberLaws.{goes_none}
use Rattle.volume_turns.proofs.ReasonLaws.{read_since}

-- ---- an entry that a path reaches is no longer than the grammar allows

passes_at : (entries : List Entry) (e : Entry) → list_all is_entry entries ≡ true → (i : ℕ) → i < length entries → slice_index_or entries i e ≡ e → is_entry e ≡ true
passes_at [] e all i lt is = absurd (omega arith)
passes_at (x ∷ entries) e all zero lt is = subst (λ (y : Entry). is_entry y ≡ true) is (and_parts (is_entry x) (list_all is_entry entries) all).0
passes_at (x ∷ entries) e all (suc i) lt is = passes_at entries e (and_parts (is_entry x) (list_all is_entry entries) all).1 i (omega arith) is

entry_short : (e : Entry) → is_entry e ≡ true → e.length ≤ max_length
entry_short e good =
    let sized = and_parts (is_key e.key && nat_le e.keep max_keep && nat_le e.length max_length && are_runs e.runs) (total e.runs == sectors_for e.length) good in
    let runs = and_parts (is_key e.key && nat_le e.keep max_keep && nat_le e.length max_length) (are_runs e.runs) sized.0 in
    leb-true e.length max_length (and_parts (is_key e.key && nat_le e.keep max_keep) (nat_le e.length max_length) runs.0).1

found_short : (pages : List (List ℕ)) (visit : Visit) → Contains (visits pages) visit → (e : Entry) → Contains (entries_of visit.content) e → e.length ≤ max_length
found_short pages visit has e there = by visit.content (sym (own_content pages visit has)) there
  where
    by : (o : Option Content) → page_at pages visit.page ≡ o → Contains (entries_of o) e → e.length ≤ max_length
    by None is (i, lt, at) = absurd (omega (arith, lt))
    by (Some Free) is (i, lt, at) = absurd (omega (arith, lt))
    by (Some (Interior first separators)) is (i, lt, at) = absurd (omega (arith, lt))
    by (Some (Leaf entries)) is (i, lt, at) =
        let all = list_all is_entry entries in
        let ascend = are_ascending (map (λ (x : Entry). x.key) entries) in
        let both = and_parts (all && ascend) (is_between (least_used visit.page) room (length (contents_of (Leaf entries)))) (at_is_page pages visit.page (Leaf entries) is) in
        entry_short e (passes_at entries e (and_parts all ascend both.0).0 i lt at)

-- ---- a range that is the whole version

module _ (s : State) (i : Image) (key : Key) (old new : List ℕ) (n : ℕ) (fits : length new ≡ length old) where
  version_of : (v : Visit) (x : HasRange s i key 0 old new n v) → n ≡ x.entry.length → HasVersion s i key (take n new) v
  version_of v x all = record {
    entry = x.entry;
    there = x.there;
    key_is = x.key_is;
    taken = x.taken;
    many = let count = x.range.count in length-take-le n new (omega (arith, fits, count)) ∙ all;
    whole = subst (λ (many : ℕ). AllByRecursion (IsWhole i) (range_sectors x.entry.runs 0 many)) all x.range.whole;
    gives = λ file hurt len kept.
        let front : take n (drop 0 file.bytes) ≡ file.bytes = take_all n file.bytes (omega (arith, all, len)) in
        let is : new ≡ file.bytes ++ drop n old = (x.range.gives file hurt len kept).bytes ∙ ap (λ (y : List ℕ). y ++ drop n old) front in
        ap (take n) is ∙ take-append-le n file.bytes (drop n old) (omega (arith, all, len)) ∙ front;
  }

  -- where some room is left, or there was room for the longest
  pub version_shown : (n < length old) ⊎ (max_length < length old) → (pages : List (List ℕ)) → ReachesPage (HasRange s i key 0 old new n) pages → ReachesPage (HasVersion s i key (take n new)) pages
  version_shown enough pages (visit, has, x) = (visit, has, version_of visit x (all enough))
    where
      all : (n < length old) ⊎ (max_length < length old) → n ≡ x.entry.length
      all (inl less) = let count = x.range.count in omega (arith, less, count)
      all (inr more) = let count = x.range.count in let short = found_short pages visit has x.entry x.there.there in omega (arith, more, short, count)

-- ---- a read behind a look-up or another read, over the same state

module _ {D S : Type 0} (M : Ghosts D) (state : S → State) (resident : S → ℕ → Option (List ℕ)) (key : Key) (v x w : S) (a m b : D) (r : Result Reply Fault) where
  pub tells_then : {f g : Option ℕ} → OnlyReads M f a m → OnlyReads M g m b → state x ≡ state v → state w ≡ state x → TellsAnswer M state resident (Word.Get key) x w m b r → TellsAnswer M state resident (Word.Get key) v w a b r
  tells_then first next same still then =
      let s = state v in
      let t = state w in
      let kept = still ∙ same in
      record {
        fault = then.fault;
        status = then.status;
        answers = λ h.
            let does = then.answers h in
            let worn = first.worn (next.trust.honest h) in
            record {
              replies = does.replies;
              rest = worn_first (M.now a) (M.now m) (M.now b) worn.windows worn.image does.rest;
              still = kept;
              worn = λ is. subst (λ (y : State). IsTrue (is_worn y)) same (does.worn is);
              numbers = goes_none 1 s t kept;
              told = subst (λ (y : State). IfErr r (IsToldOn AreOfPage y.layout (M.now b).image)) same does.told;
            };
        written = λ tells. subst (λ (l : Ledger). HasWritten 0 l (M.ledger b) r) (first.ledger (next.trust.tells tells)) (then.written tells);
        because = λ h.
            let worn = first.worn (next.trust.honest h) in
            read_since state resident key s (state x) t (M.now a) (M.now m) (M.now b) same (record { image = worn.image; windows = worn.windows }) r (then.because h);
      }
