-- What came of commands, counted as they are done.
use Rattle.std.specs.Prelude.{◌+◌, ◌≤◌, List, [], ◌∷◌}
use Rattle.fsd_texts.specs.declared.counts.Counts.{Counts}
use Rattle.fsd_texts.specs.declared.script_command.ScriptCommand.{ScriptCommand}
use Rattle.fsd_files.specs.declared.reply.Reply.{Reply}
use Rattle.fsd_runs.specs.Errands.{Answered, moved_in, is_deleted, is_kept, is_made, is_read, is_refused}

-- nothing was done yet
abbrev pub nothing_done : Counts
nothing_done = record { count = 0; made = 0; deleted = 0; kept = 0; read = 0; bytes = 0; refused = 0 }

-- with one more
abbrev pub counted : Counts → ScriptCommand → Reply → Counts
counted t command reply = record {
  count = t.count + 1;
  made = t.made + is_made reply;
  deleted = t.deleted + is_deleted reply;
  kept = t.kept + is_kept reply;
  read = t.read + is_read reply;
  bytes = t.bytes + moved_in command reply;
  refused = t.refused + is_refused reply;
}

-- with all of these more
abbrev pub all_counted : Counts → List Answered → Counts
all_counted t [] = t
all_counted t (p ∷ done) = all_counted (counted t p.command p.reply) done

-- no more than were done
pub record IsTally (t : Counts) : Type 0 where
  pub made : t.made ≤ t.count
  pub deleted : t.deleted ≤ t.count
  pub kept : t.kept ≤ t.count
  pub read : t.read ≤ t.count
  pub refused : t.refused ≤ t.count
