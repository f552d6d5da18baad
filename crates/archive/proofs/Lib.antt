mod Says
mod Still
