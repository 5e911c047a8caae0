mod NoteKeys
mod ReviewKeys
