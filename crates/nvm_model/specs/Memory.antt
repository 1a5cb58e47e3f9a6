use Rattle.std.specs.Prelude.{ℕ, ◌+◌, ◌*◌, List, [], ◌++◌, length, take, drop, replicate, slice_index_or, slice_set}

-- The memory that a guest shares with its controller. Window page 0 holds a lane's submission queue, page 1 its
-- completion queue; the data pages come after them. (Addresses are this project's.)

-- the window of lane k begins at guest address k times 16,777,216
abbrev pub window_address : ℕ → ℕ
window_address lane = lane * 16777216

-- the guest address of a data page of a lane
abbrev pub page_address : ℕ → ℕ → ℕ
page_address lane page = window_address lane + (page + 2) * 4096

-- a page is 4,096 bytes, a block 512; both begin as zeroes
unfoldable pub zero_page : List ℕ
zero_page = replicate 4096 0

-- 4,096 times one byte
unfoldable pub filled_page : ℕ → List ℕ
filled_page byte = replicate 4096 byte

-- 512 zeroes
unfoldable pub zero_block : List ℕ
zero_block = replicate 512 0

-- page p of these, and no bytes where there is none
abbrev pub page_at : List (List ℕ) → ℕ → List ℕ
page_at pages p = slice_index_or pages p []

-- a page after bytes were written at a place of it
abbrev pub written : List ℕ → ℕ → List ℕ → List ℕ
written page at bytes = take at page ++ bytes ++ drop (at + length bytes) page

-- the pages after bytes were written at a place of one of them
abbrev pub with_bytes : List (List ℕ) → ℕ → ℕ → List ℕ → List (List ℕ)
with_bytes pages p at bytes = slice_set pages p (written (page_at pages p) at bytes)
