-- Pages by rising key: by object, and by page of an object.
use Rattle.std.specs.Prelude.{ℕ, ◌≤◌, ◌==◌, ◌&&◌, ◌||◌, Bool, nat_lt}
use Rattle.vm_base.specs.declared.ids.PageKey.{PageKey}

abbrev pub page_key : ℕ → ℕ → PageKey
page_key object page = record { object = record { 0 = object }; page = record { 0 = page } }

abbrev pub is_page : PageKey → ℕ → ℕ → Bool
is_page key object page = key.object.0 == object && key.page.0 == page

-- a page comes in front of another
abbrev pub is_before : PageKey → ℕ → ℕ → Bool
is_before key object page = nat_lt key.object.0 object || (key.object.0 == object && nat_lt key.page.0 page)

-- a page is another or comes behind it
pub record IsFrom (object page : ℕ) (key : PageKey) : Type 0 where
  pub above : object ≤ key.object.0
  pub inside : key.object.0 ≤ object → page ≤ key.page.0
