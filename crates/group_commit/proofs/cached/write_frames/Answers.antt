use Rattle.std.proofs.Common.{◌≡◌, ◌<◌, ℕ, List, Some, length, get_or, rules}
use Rattle.std.proofs.lemmas.Result.{IfErr-weaker, on_ok_weaker}
use Rattle.fsd_log.specs.Judged.{sector_in}
use Rattle.page_cache.specs.Cache.{cached_bytes}
use Rattle.sector_disk.proofs.CallLaws.{writes_more}
use Rattle.group_commit.specs.Cached.{HasImages}
use Rattle.group_commit.proofs.LoggedLaws.{logged_of}
use Rattle.group_commit.proofs.cached.write_frames.Goals as goal

pub returns-clause-disk : goal.returns-clause-disk
returns-clause-disk g c = writes_more c.write_record.ensures.disk (λ h left leaves pages agrees. leaves pages (let has : HasImages c.args.log.now c.args.waiting.now c.as_slice.result.now pages = search rules in has))

pub returns-clause-failed : goal.returns-clause-failed
returns-clause-failed g c =
    IfErr-weaker c.write_record.result _ _
    (λ fault failed. record {
      write = failed.write;
      never_lost = λ pages windows records disk agrees. failed.never_lost pages windows records disk (let has : HasImages c.args.log.now c.args.waiting.now c.as_slice.result.now pages = search rules in has);
    })
    c.write_record.ensures.failed

pub returns-clause-done : goal.returns-clause-done
returns-clause-done g c =
    on_ok_weaker c.write_record.result
    (λ done. record {
      past = done.past;
      counted = done.counted;
      shows = λ pages windows records disk agrees. done.shows pages windows records disk (let has : HasImages c.args.log.now c.args.waiting.now c.as_slice.result.now pages = search rules in has);
      knows = λ pages windows records disk agrees. done.knows pages windows records disk (let has : HasImages c.args.log.now c.args.waiting.now c.as_slice.result.now pages = search rules in has);
    })
    c.write_record.ensures.done

pub returns-clause-logged : goal.returns-clause-logged
returns-clause-logged g c =
    let room : List ℕ = c.as_slice.result.now in
    let frames : (k : ℕ) → k < length c.args.waiting.now → cached_bytes c.lay_record.new.cache (get_or c.args.waiting.now k 0) ≡ Some (sector_in room k) = search rules in
    on_ok_weaker c.write_record.result
    (λ logged h. logged_of c.write_record.new.log (g.M.Machine.now c.write_record.new.m) c.lay_record.new.cache c.args.waiting.now room (logged h) frames)
    c.write_record.ensures.logged
