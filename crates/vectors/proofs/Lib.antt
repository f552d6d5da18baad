mod Count
