use Rattle.std.proofs.Common.{◌∙◌, ap, sym, set}
use Rattle.guest_ram.specs.Window.{WindowState}
use Rattle.guest_ram.proofs.Copied.{HasPut, pages-put, shape-put}
use Rattle.guest_ram.proofs.ram.Ram.put_page.Goals as goal

put : (c : goal.After-self-1) → HasPut c.args.self.now c.args.page c.place_of-place.result.window c.place_of-place.result.page c.index-windows-place.result c.put_page.new.self c.args.bytes.now
put c = record {
  place = rw c.as_slice.ensures.value at c.place_of-place.ensures;
  is = rw c.windows.ensures.value at c.index-windows-place.is;
  lane = c.put_page.ensures.lane ∙ ap (λ (v : WindowState). v.lane) (sym c.index-windows-place.is);
  pages = c.put_page.ensures.pages ∙ ap (λ (v : WindowState). set v.pages c.place_of-place.result.page c.args.bytes.now) (sym c.index-windows-place.is);
}

pub returns-clause-pages : goal.returns-clause-pages
returns-clause-pages c = rw c.windows.ensures.value (pages-put _ _ _ _ _ _ _ (put c))

pub returns-clause-shape : goal.returns-clause-shape
returns-clause-shape c = rw c.windows.ensures.value (shape-put _ _ _ _ _ _ _ (put c))
