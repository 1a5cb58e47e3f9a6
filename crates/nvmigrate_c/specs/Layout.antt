use Rattle.std.specs.Prelude.{ℕ, [], ◌∷◌, slice_index}

-- the size in bytes of a struct of the header, by its place: a submission entry, a completion, the controller's end of a
-- submission queue and of a completion queue, the guest's of either, an admin command, a pair, parts, a wrong line,
-- a change and a change queue
abbrev pub size_in : ℕ → ℕ
size_in place = slice_index (64 ∷ 20 ∷ 6 ∷ 8 ∷ 6 ∷ 6 ∷ 24 ∷ 14 ∷ 272 ∷ 8 ∷ 8 ∷ 16 ∷ []) place
