use Rattle.std.proofs.Common.{refl}
use Rattle.std.proofs.lemmas.Option.{slice_get_read}
use Rattle.name_page.specs.VecPages.{written}
use Rattle.name_page.proofs.MarkLaws.{same_written}
use Rattle.name_page.proofs.vec_pages.VecPagesPages.change.Goals as goal

pub invariant_of-self-lent : goal.invariant_of-self-lent
invariant_of-self-lent c = λ bytes.
    let s = c.args.self.now in
    let x = written s c.args.page bytes in
    (x.small, (x.flags, (s.counted, (s.kept, (x.are_accepted, tt)))))

pub returns : goal.returns
returns c = (
  (refl, λ w. same_written c.args.self.now c.args.page w c.put_one.new.pages _ _ _ _ _ c.put_one.ensures),
  record { writes_back = tt; value = slice_get_read c.args.self.now.pages.items _ c.args.page _ refl c.requires.reached.0 c.index_mut.ensures.value },
)
