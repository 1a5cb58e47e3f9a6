use Rattle.std.specs.Prelude.{◌≡◌, ℕ, ◌+◌, ◌-◌, ◌==◌, if◌then◌else◌, replicate, ◌<◌, Option, Some, None, List, [], ◌∷◌, length, Result, Ok, Err, MatchResult, slice_index, slice_set}
use Rattle.nvm_model.specs.declared.command.Pages.{Pages}
use Rattle.nvm_model.specs.Check.{page_named, pages_named, as_pages, list_entries}
use Rattle.nvm_model.specs.Memory.{page_at}
use Rattle.guest_ram.specs.declared.window.span.BadPrp.{BadPrp}
use Rattle.guest_ram.specs.Window.{WindowState, data_pages}

-- the data pages that a command's pointers name in a window, or the place of the first that names none
abbrev pub named_in : WindowState → ℕ → ℕ → ℕ → Result (List ℕ) ℕ
named_in w prp1 prp2 count = pages_named w.lane (data_pages w) prp1 prp2 count

-- the answer is what the pointers name
abbrev pub IsNamed : Result (List ℕ) ℕ → Result Pages BadPrp → Type 0
IsNamed named r = MatchResult named (λ pages. r ≡ Ok (as_pages (Ok pages))) (λ place. r ≡ Err (record { which = place }))

-- so many pages, each of which is a data page of the window
pub record IsWithin (w : WindowState) (n : ℕ) (pages : Pages) : Type 0 where
  pub used : pages.used ≡ n
  pub there : (i : ℕ) → i < pages.used → slice_index pages.list i < length (data_pages w)

-- Below, the pages as they are gathered, one pointer after another.

abbrev pub with_number : Pages → ℕ → Pages
with_number pages page = record { list = slice_set pages.list pages.used page; used = pages.used + 1 }

abbrev pub with_named : Pages → Option ℕ → Result Pages BadPrp
with_named pages None = Err (record { which = pages.used })
with_named pages (Some page) = Ok (with_number pages page)

abbrev pub and_then : Result Pages BadPrp → (Pages → Result Pages BadPrp) → Result Pages BadPrp
and_then (Ok pages) f = f pages
and_then (Err e) f = Err e

abbrev pub with_all : ℕ → ℕ → List ℕ → Pages → Result Pages BadPrp
with_all lane count [] pages = Ok pages
with_all lane count (pointer ∷ pointers) pages = and_then (with_named pages (page_named lane count pointer)) (with_all lane count pointers)

abbrev pub with_list : ℕ → List (List ℕ) → ℕ → Pages → Option ℕ → Result Pages BadPrp
with_list lane memory n pages None = Err (record { which = 8 })
with_list lane memory n pages (Some page) = with_all lane (length memory) (list_entries (page_at memory page) 0 n) pages

abbrev pub no_pages : Pages
no_pages = record { list = replicate 8 0; used = 0 }

abbrev pub gathered : ℕ → List (List ℕ) → ℕ → ℕ → ℕ → Result Pages BadPrp
gathered lane memory prp1 prp2 n =
    and_then (with_named no_pages (page_named lane (length memory) prp1)) (λ first.
    if n == 1 then Ok first
    else if n == 2 then with_named first (page_named lane (length memory) prp2)
    else with_list lane memory (n - 1) first (page_named lane (length memory) prp2))
