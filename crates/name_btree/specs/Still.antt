-- What a step has done where it only looked.
use Rattle.std.specs.Prelude.{◌≡◌, ℕ, true, false, Some, ⊤}
use Rattle.fsd_formats.specs.NamePage.{Content}
use Rattle.fsd_table.specs.declared.child.Child.{Child}
use Rattle.fsd_table.specs.Pages.{content_fits, page_at}
use Rattle.name_page.specs.Pages.{Step, is_spare, with_images, with_refusal, IsReached}
use Rattle.name_btree.specs.declared.fault.TreeFault.{TreeFault}
use Rattle.name_btree.specs.declared.fault.TreeFault.TheVariants.{Pages, Broken}
use Rattle.name_btree.specs.Fault.{BarsPage, HasTreeCause, IsMisfit, Never, ShowsMisfit}

-- a step that has changed no more pages than another, and took none
pub record IsStillStep (old new : Step) : Type 0 where
  pub changed : new.changed ≡ old.changed
  pub most_changed : new.most_changed ≡ old.most_changed
  pub promised : new.promised ≡ old.promised

-- where the pages refused one, the step has that refusal, and nothing else is new
abbrev pub HasRefusal : (old new : Step) → TreeFault → Type 0
HasRefusal old new (Pages refusal) = new ≡ with_refusal refusal (with_images new.images old)
HasRefusal old new (Broken page) = ⊤

-- ---- a page that is read

-- the page was reached, was not spare, and has this
pub record IsReadPage (old new : Step) (page : ℕ) (x : Content) : Type 0 where
  pub reached : IsReached new page
  pub used : is_spare old.spares page ≡ false
  pub node : page_at new.images page ≡ Some x

-- so was the page of a child, and its keys stand between the child's
pub record IsReadChild (old new : Step) (c : Child) (x : Content) : Type 0 where
  pub reached : IsReached new c.page
  pub used : is_spare old.spares c.page ≡ false
  pub node : page_at new.images c.page ≡ Some x
  pub fits : content_fits c.low c.high (Some x) ≡ true

-- why a page is not read: it may not be reached, or the refusal came from outside
pub record FailsPage (old new : Step) (page : ℕ) (fault : TreeFault) : Type 0 where
  pub cause : HasTreeCause new Never (BarsPage new page) fault
  pub refused : HasRefusal old new fault

-- why that of a child is not: it may also be no page whose keys stand between the child's, which what was reached shows
pub record FailsChild (old new : Step) (c : Child) (fault : TreeFault) : Type 0 where
  pub cause : HasTreeCause new (IsMisfit new.images c) (BarsPage new c.page) fault
  pub shown : ShowsMisfit new c fault
  pub refused : HasRefusal old new fault
