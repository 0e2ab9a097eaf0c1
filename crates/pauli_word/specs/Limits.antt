-- The sizes of a word, each by one name.
use Rattle.std.specs.Prelude.{ℕ, ◌+◌, ◌*◌}

-- the bytes of one plane
abbrev pub plane_length : ℕ
plane_length = 256

-- the most sites of a word or a group: a bit of a plane for each
abbrev pub max_sites : ℕ
max_sites = 8 * plane_length

-- the bytes of a word in full: the X plane and then the Z plane
abbrev pub word_length : ℕ
word_length = plane_length + plane_length

-- the old form of a word, which is still read: the bytes of one plane, the most sites, and the bytes of a word
abbrev pub old_plane_length : ℕ
old_plane_length = 32

abbrev pub old_sites : ℕ
old_sites = 8 * old_plane_length

abbrev pub old_length : ℕ
old_length = old_plane_length + old_plane_length
