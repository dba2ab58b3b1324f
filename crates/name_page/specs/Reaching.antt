-- What a call that reaches a page, or promises spare ones, leaves of the pages and of its step.
use Rattle.std.specs.Prelude.{◌≡◌, ℕ, false, IsSome}
use Rattle.fsd_bytes.specs.declared.refusal.Refusal.{Refusal}
use Rattle.fsd_table.specs.Pages.{page_at}
use Rattle.name_page.specs.Pages.{Step, is_spare, spare_count, IsReached, IsReachRefusal, IsSpareRefusal, Keeps, with_images, with_reached, with_refusal}

-- as many pages, and those that were reached are as they were; where the outside is trusted all are
pub record SeesPages (trusts : Type 0) (old new : Step) : Type 0 where
  pub kept : Keeps old new.images
  pub stays : trusts → new.images ≡ old.images

-- the page was not spare, has what the grammar accepts, and the step has reached it and done nothing else
pub record HasReached (page : ℕ) (old new : Step) : Type 0 where
  pub step : new ≡ with_reached page (with_images new.images old)
  pub reached : IsReached new page
  pub accepted : IsSome (page_at new.images page)
  pub used : is_spare old.spares page ≡ false

-- the step was refused the page so, and has done nothing else
pub record RefusesReach (page : ℕ) (old new : Step) (refusal : Refusal) : Type 0 where
  pub step : new ≡ with_refusal refusal (with_images new.images old)
  pub cause : IsReachRefusal new page refusal

-- the step was refused so many spare pages so, and has done nothing else
pub record RefusesSpare (n : ℕ) (old new : Step) (refusal : Refusal) : Type 0 where
  pub step : new ≡ with_refusal refusal (with_images new.images old)
  pub cause : IsSpareRefusal (spare_count old) n refusal
