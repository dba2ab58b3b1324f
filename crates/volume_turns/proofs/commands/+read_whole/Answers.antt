use Rattle.std.proofs.Common.{◌≡◌, ◌<◌, ◌≤◌, ◌+◌, inl, inr, ℕ, List, ◌∙◌, refl, sym, ap, subst, Option, length, take, drop, arith}
use Rattle.std.specs.Prelude.{◌⊎◌, Err, IfOk, Result}
use Rattle.std.proofs.lemmas.List.{take_at}
use Rattle.fsd_files.specs.Answers.{entry_of}
use Rattle.fsd_files.specs.declared.reply.Reply.{Reply}
use Rattle.fsd_files.specs.declared.reply.Reply.TheVariants as Said
use Rattle.fsd_texts.specs.declared.command.Command.TheVariants as Word
use Rattle.fsd_texts.specs.declared.fault.Fault.{Fault}
use Rattle.scrub.specs.Telling.{AreOfPage}
use Rattle.sector_disk.specs.Calls.{OnlyReads}
use Rattle.sector_disk.specs.Image.{open_damage}
use Rattle.sector_disk.proofs.CallLaws.{reads_then}
use Rattle.volume_contract.specs.Order.{read_steps}
use Rattle.volume_contract.specs.State.{State, volume_of}
use Rattle.volume_turns.specs.Steps.{Does, IsAnswered, device_by}
use Rattle.volume_turns.proofs.OrderLaws.{read_down, read_worn}
use Rattle.volume_turns.proofs.ReadLaws.{does_earlier, read_does, some_longer, unread_does}
use Rattle.volume_turns.proofs.GetLaws.{tells_then, version_shown}
use Rattle.volume_turns.proofs.StepLaws.{same_read_device}
use Rattle.volume_turns.proofs.StatusLaws.{refused_read}
use Rattle.fsd_bytes.specs.declared.refusal.Refusal.{Refusal}
use Rattle.fsd_bytes.specs.declared.refusal.Refusal.TheVariants as Why
use Rattle.fsd_files.specs.Disk.{nowhere}
use Rattle.volume_turns.specs.Commands.{HasDamaged, MayReply}
use Rattle.scrub.proofs.LeadLaws.{worn_touches}
use Rattle.volume_turns.proofs.AnsweringLaws.{data_inside, read_refused}
use Rattle.volume_turns.proofs.ToldLaws.{read_told_so, told_of}
use Rattle.volume_turns.proofs.WornLaws.{read_told_worn}
use Rattle.volume_turns.proofs.NumberLaws.{goes_none}
use Rattle.volume_turns.specs.Reasons.{BecauseRead}
use Rattle.volume_turns.proofs.ReasonLaws.{none_written, read_because, reads_written, showed_here}
use Rattle.fsd_formats.specs.NamePage.{max_length}
use Rattle.volume_turns.proofs.commands.+read_whole.Goals as goal

-- there is room left, or it was enough for the longest
enough : {count most room : ℕ} → (count ≤ most) ⊎ (max_length ≤ most) → room ≡ most + 1 → (count < room) ⊎ (max_length < room)
enough (inl few) size = inl (omega (arith, few, size))
enough (inr long) size = inr (omega (arith, long, size))

pub returns-in-Ok-read-clause-done : goal.returns-in-Ok-read-clause-done
returns-in-Ok-read-clause-done g t c h k stands len =
    let V = g.V.Files in
    let M = g.M.Machine in
    let key = c.args.key.now in
    let count = c.in-Ok-read.count in
    let e = entry_of key (volume_of k).entries in
    let most : c.args.most ≤ length c.as_mut_slice.result.now = omega (arith, c.in-Ok.ensures.len, c.as_mut_slice.ensures.len) in
    let lens = some_longer e c.args.most (length c.as_mut_slice.result.now) most len in
    let is = read_does V.state V.holds key c.args.v.now c.read.new.self k (M.now c.args.m.now) (M.now c.read.new.m) c.as_mut_slice.result.now c.read.new.buf count lens (c.in-Ok-read.ensures.done h k stands) in
    let items = take_at c.read.new.buf (drop (length c.read.new.buf) c.in-Ok.bytes.items) c.in-Ok.bytes.len (omega (arith, c.in-Ok.ensures.len, c.as_mut_slice.ensures.len, c.read.auto.buf)) in
    rw c.first_bytes.ensures (k, subst (λ (b : List ℕ). IsAnswered (Word.Get key) (V.state c.args.v.now) k k (M.now c.args.m.now).image (M.now c.read.new.m).image (Said.Bytes key (take count b))) (sym items) is, c.in-Ok-read.ensures.stands h k stands, tt)

pub returns-in-Err-clause-disk : goal.returns-in-Err-clause-disk
returns-in-Err-clause-disk g t c =
    let s = g.V.Files.state c.args.v.now in
    subst (λ (f : Option ℕ). OnlyReads g.M.Machine f c.args.m.now c.read.new.m) (same_read_device c.args.key.now c.in-Err.why (read_down s c.requires.up c.in-Err.why c.in-Err.ensures.order.follows) ∙ ap (λ (r : Result Reply Fault). device_by r) (sym c.read_ended_by.ensures.is)) c.in-Err.ensures.disk

pub returns-in-Err-clause-done : goal.returns-in-Err-clause-done
returns-in-Err-clause-done g t c h k stands len =
    let V = g.V.Files in
    let M = g.M.Machine in
    let e = entry_of c.args.key.now (volume_of k).entries in
    let most : c.args.most ≤ length c.as_mut_slice.result.now = omega (arith, c.in-Ok.ensures.len, c.as_mut_slice.ensures.len) in
    let lens = some_longer e c.args.most (length c.as_mut_slice.result.now) most len in
    subst (λ (r : Result Reply Fault). Does V.state V.holds (Word.Get c.args.key.now) c.args.v.now c.read.new.self k (M.now c.args.m.now) (M.now c.read.new.m) r) (sym c.read_ended_by.ensures.is)
    (unread_does V.state V.holds c.args.key.now c.args.v.now c.read.new.self k (M.now c.args.m.now) (M.now c.read.new.m) c.as_mut_slice.result.now c.read.new.buf c.in-Err.why lens (c.in-Err.ensures.stands h k stands) (c.in-Err.ensures.done h k stands))

-- ---- what is told of any image

pub returns-in-Ok-read-clause-tells : goal.returns-in-Ok-read-clause-tells
returns-in-Ok-read-clause-tells g t c =
    let V = g.V.Files in
    let M = g.M.Machine in
    let now = M.now in
    let a = now c.args.m.now in
    let s = V.state c.args.v.now in
    let u = V.state c.read.new.self in
    let e = c.in-Ok-read.ensures in
    let items = take_at c.read.new.buf (drop (length c.read.new.buf) c.in-Ok.bytes.items) c.in-Ok.bytes.len (omega (arith, c.in-Ok.ensures.len, c.as_mut_slice.ensures.len, c.read.auto.buf)) in
    let key = c.args.key.now in
    let count = c.in-Ok-read.count in
    let size : length c.as_mut_slice.result.now ≡ c.args.most + 1 = omega (arith, c.in-Ok.ensures.len, c.as_mut_slice.ensures.len) in
    let left = c.read.auto.buf in
    rw c.first_bytes.ensures (record {
      fault = tt;
      status = refl;
      answers = λ h. record { replies = refl; rest = worn_touches nowhere a (now c.read.new.m) (e.disk.worn h).image; still = e.state; worn = λ is. absurd (cc is); numbers = goes_none 1 s u e.state; told = tt };
      written = λ tells. none_written (M.ledger c.args.m.now) (M.ledger c.read.new.m) (e.disk.ledger tells);
      because = λ h.
          let found = e.tells.found h in
          subst (λ (b : List ℕ). BecauseRead V.state V.resident key s u a (now c.read.new.m) (Said.Bytes key (take count b))) (sym items)
          (showed_here V.state V.resident c.args.v.now u a (now c.read.new.m) _ (record { read = found.read; are_read = found.are_read; is = λ pages have. version_shown u a.image key c.as_mut_slice.result.now c.read.new.buf count (omega (arith, left)) (enough c.if-are_all.ensures size) pages (found.is pages have) }));
    })

pub returns-in-Err-clause-tells : goal.returns-in-Err-clause-tells
returns-in-Err-clause-tells g t c =
    let V = g.V.Files in
    let M = g.M.Machine in
    let now = M.now in
    let a = now c.args.m.now in
    let b = now c.read.new.m in
    let s = V.state c.args.v.now in
    let u = V.state c.read.new.self in
    let e = c.in-Err.ensures in
    let key = c.args.key.now in
    let why = c.in-Err.why in
    let r = c.read_ended_by.result in
    let is = c.read_ended_by.ensures.is in
    record {
      fault = c.read_ended_by.ensures.fault;
      status = refused_read key why r is;
      answers = λ h.
          let room : s.layout.sectors ≤ length b.image = omega (arith, c.requires.room, e.disk.uses.sectors, g.met.M.Machine.sized c.read.new.m h) in
          let told : (n : ℕ) → why ≡ Why.Damaged n → HasDamaged b.image n = λ n same.
          let err = ap (λ (w : Refusal). Err w) same in (data_inside s.layout n (length b.image) (e.tells.damaged n err h).within room, (e.tells.damaged n err h).damaged) in
          record {
            replies = subst (λ (x : Result Reply Fault). IfOk x (λ y. MayReply (Word.Get key) b.image y)) (sym is) (read_refused s c.requires.up key b.image why told e.order.follows);
            rest = worn_touches nowhere a b (e.disk.worn h).image;
            still = e.state;
            worn = read_told_worn s (read_steps s) key why r is e.order.follows (λ comes. read_worn s c.requires.up comes);
            numbers = goes_none 1 s u e.state;
            told = read_told_so AreOfPage s.layout b.image key why r is (told_of s u (V.resident c.args.v.now) a b (ap (λ (x : State). x.layout) e.state) why (e.tells.causes h));
          };
      written = λ tells. reads_written (M.ledger c.args.m.now) (M.ledger c.read.new.m) (e.disk.ledger tells) r;
      because = λ h. read_because V.state V.resident key s u a b why r is (λ none same. showed_here V.state V.resident c.args.v.now u a b _ (e.tells.absent (ap (λ (w : Refusal). Err w) none) h)) (λ n same. (e.tells.damaged n (ap (λ (w : Refusal). Err w) same) h).within);
    }

-- ---- with room for the longest

pub returns-in-Ok-2-clause-disk : goal.returns-in-Ok-2-clause-disk
returns-in-Ok-2-clause-disk g t c = reads_then c.in-Ok-2.ensures.disk c.read_whole.ensures.disk

pub returns-in-Ok-2-clause-tells : goal.returns-in-Ok-2-clause-tells
returns-in-Ok-2-clause-tells g t c =
    let V = g.V.Files in
    let e = c.in-Ok-2.ensures in
    let then = c.read_whole.ensures in
    tells_then g.M.Machine V.state V.resident c.args.key.now c.args.v.now c.read.new.self c.read_whole.new.v c.args.m.now c.read.new.m c.read_whole.new.m c.read_whole.result e.disk then.disk e.state then.state then.tells

pub returns-in-Ok-2-clause-done : goal.returns-in-Ok-2-clause-done
returns-in-Ok-2-clause-done g t c h k stands len =
    let V = g.V.Files in
    let M = g.M.Machine in
    let key = c.args.key.now in
    let a = M.now c.args.m.now in
    let e = c.in-Ok-2.ensures in
    let then = c.read_whole.ensures in
    let back = then.disk.trust.honest h in
    let more = c.if-are_all.ensures in
    let longer = some_longer (entry_of key (volume_of k).entries) c.args.most max_length (omega (arith, more)) len in
    does_earlier V.state V.holds key c.args.v.now c.read.new.self c.read_whole.new.v k a (M.now c.read.new.m) (M.now c.read_whole.new.m) (open_damage a.windows) (e.disk.worn back).image c.read_whole.result
    (then.done h k (e.stands back k stands) longer)
